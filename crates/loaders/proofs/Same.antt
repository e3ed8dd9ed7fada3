-- What is read, turned into something else, and back. Assumes nothing.
use Rattle.std.proofs.Common.{◌≡◌, ℕ, Result, Ok, Err, refl, sym, ap, ◌∙◌}
use Rattle.common.specs.declared.refusal.Refusal.{Refusal}
use Rattle.loaders.specs.Reading.{Outcome, read_as, past_of}

-- equal readings have equal values and positions
module _ {A : Type 0} (a b : A) (m n : ℕ) (h : ◌≡◌ {A = Outcome A} (Ok (a, m)) (Ok (b, n))) where
  pair : ◌≡◌ {A = A × ℕ} (a, m) (b, n)
  pair = cc

  pub same_value : a ≡ b
  same_value = ap (λ (p : A × ℕ). p.0) pair

  pub same_past : m ≡ n
  same_past = ap (λ (p : A × ℕ). p.1) pair

-- what was read, where something that it gives is known
pub record Was {A B : Type 0} (f : A → B) (X : Outcome A) (b : B) (past : ℕ) : Type 0 where
  pub value : A
  pub is : X ≡ Ok (value, past)
  pub gives : f value ≡ b

module _ {A B : Type 0} (f : A → B) where
  pub was : (X : Outcome A) (b : B) (past : ℕ) → read_as f X ≡ Ok (b, past) → Was f X b past
  was (Ok (a, at)) b past h = record { value = a; is = ap (λ n. Ok (a, n)) (same_past (f a) b at past h); gives = same_value (f a) b at past h }
  was (Err e) b past h = absurd (cc)

  pub was_refused : (X : Outcome A) (e : Refusal) → read_as f X ≡ Err e → X ≡ Err e
  was_refused (Ok (a, at)) e h = absurd (cc)
  was_refused (Err x) e h = let p : x ≡ e = cc in ap (λ y. Err y) p

-- what was read, where the position past it alone is known
pub record Ended {A : Type 0} (X : Outcome A) (past : ℕ) : Type 0 where
  pub value : A
  pub is : X ≡ Ok (value, past)

module _ {A : Type 0} where
  pub ended : (X : Outcome A) (past : ℕ) → past_of X ≡ Ok past → Ended X past
  ended (Ok (a, at)) past h = let p : at ≡ past = cc in record { value = a; is = ap (λ n. Ok (a, n)) p }
  ended (Err e) past h = absurd (cc)

  pub end_refused : (X : Outcome A) (e : Refusal) → past_of X ≡ Err e → X ≡ Err e
  end_refused (Ok (a, at)) e h = absurd (cc)
  end_refused (Err x) e h = let p : x ≡ e = cc in ap (λ y. Err y) p
