-- What follows from tests that hold together, or that fail.
-- Assumes nothing.
use mathlib.Core.Path.{◌≡◌, refl}
use mathlib.Core.Bool.{Bool, true, false, cond, not, ◌||◌, true≢false, false≢true}
use lib.Dec.{T}

pub left_of : (a b : Bool) → T (cond a b false) → T a
left_of true b t = tt
left_of false b t = t

pub right_of : (a b : Bool) → T (cond a b false) → T b
right_of true b t = t
right_of false b t = absurd t

pub neither : (t u : Bool) → t || u ≡ false → (t ≡ false) × (u ≡ false)
neither true u e = absurd (true≢false e)
neither false u e = (refl, e)

pub not_so : (t : Bool) → not t ≡ true → t ≡ false
not_so true h = absurd (false≢true h)
not_so false h = refl
