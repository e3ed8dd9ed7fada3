-- Text put behind text. Assumes nothing.
use Rattle.std.proofs.Common.{◌≡◌, ℕ, zero, suc, ◌+◌, ◌≤◌, List, ◌∷◌, ◌++◌, length, take, replicate, refl, ap, ◌∙◌, arith, length-append, Result, Err, IsOk, Bool, false, true}
use Rattle.common.specs.Lists.{put}
use Rattle.common.proofs.Put.{put_laws}
use Rattle.pages.specs.declared.page.Page.{Page}
use Rattle.pages.specs.Text.{Puts}

pub puts_then : {E : Type 0} (page page₁ page₂ : Page) (a b : List ℕ) (r₁ r₂ : Result Unit E)
    → Puts page a page₁ r₁ → Puts page₁ b page₂ r₂ → Puts page (a ++ b) page₂ r₂
unfolding Puts
puts_then page page₁ page₂ a b r₁ r₂ p q h =
    let l : length (a ++ b) ≡ length a + length b = length-append a b in
    let f : page.at + length a ≤ length page.bytes = omega (arith, h, l) in
    let x = p f in
    let w : length page₁.bytes ≡ length page.bytes = ap length x.0 ∙ put_laws.length_put page.bytes page.at a f in
    let y = q (omega (arith, h, l, w, x.1)) in (
      put_laws.and_then page.bytes page₁.bytes page₂.bytes page.at (length a) a b x.0 refl (omega (arith, h, l))
          (y.0 ∙ ap (λ (i : ℕ). put page₁.bytes i b) x.1),
      omega (arith, y.1, x.1, l),
      y.2,
    )

-- the first of several blanks
pub blanks : (m n : ℕ) → m ≤ n → take {A = ℕ} m (replicate n 32) ≡ replicate m 32
blanks zero n h = refl
blanks (suc m) zero h = absurd (omega arith)
blanks (suc m) (suc n) h = ap (λ (l : List ℕ). 32 ∷ l) (blanks m n (omega arith))

-- text that could not be put, and so did not fit
pub puts_stopped : {E : Type 0} (page page₁ page₂ : Page) (a b : List ℕ) (e : E) (r : Result Unit E)
    → Puts page a page₁ (Err e) → Puts page (a ++ b) page₂ r
unfolding Puts
puts_stopped page page₁ page₂ a b e r p h =
    let l : length (a ++ b) ≡ length a + length b = length-append a b in
    let f : page.at + length a ≤ length page.bytes = omega (arith, h, l) in let no : false ≡ true = (p f).2 in cc
