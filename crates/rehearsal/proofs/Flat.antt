-- Which of the plain numbers is which.
-- Assumes nothing.
use mathlib.Core.Path.{refl}
use Rattle.rehearsal.specs.Flat.{flat_rehearsal, FlatParts}

pub flat_parts : FlatParts
unfolding flat_rehearsal
flat_parts = record { rehearsed = λ a b c d. refl; refused = λ e. refl; waits = λ a b c d. (refl, (refl, (refl, refl))) }
