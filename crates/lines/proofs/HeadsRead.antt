-- The head of a function. Assumes nothing.
use Rattle.std.proofs.Common.{◌≡◌, ℕ, ◌≤◌, ◌<◌, List, length, Ok, Err, refl, sym, ap, ◌∙◌}
use borrow.Author.Tests.{le-leb, lt-leb}
use Rattle.common.specs.Limits.{most_bytes}
use Rattle.common.specs.declared.refusal.Refusal.{Refusal}
use Rattle.common.specs.declared.refusal.Refusal.TheVariants.{MalformedChunk}
use Rattle.loaders.specs.Reading.{Outcome, bind, and_then, read_as}
use Rattle.loaders.specs.Loaders.{Text, load_byte, load_int, load_string_n}
use Rattle.loaders.specs.Lent.{name_number, BytesBounded}
use Rattle.loaders.proofs.Same.{same_past, was, was_refused}
use Rattle.lundump.specs.declared.functions.Layout.{Layout}
use Rattle.lundump.specs.Lundump.{Function, load_head}
use Rattle.lundump.specs.Search.{layout_of, located_of}
use Rattle.lundump.specs.Stands.{Stands, OneRead}
use Rattle.lines.specs.declared.choosing.Choice.{Choice}
use Rattle.lines.specs.declared.heads.Numbers.{Numbers}
use Rattle.lines.specs.Choices.{chosen_by}
use Rattle.lines.specs.Heads.{Head, read_numbers, read_head, head_of, head_from, head_lent, HeadLaws}
use Rattle.lines.proofs.Passes.{chosen_stands, short_enough}

-- the source first, and then the numbers
module _ (bytes : List ℕ) (at : ℕ) where
  pub no_source : (e : Refusal) → read_as name_number (load_string_n bytes at) ≡ Err e → head_lent (read_head bytes at) ≡ Err e
  unfolding read_head
  no_source e h = rw (was_refused name_number (load_string_n bytes at) e h)

  module _ (source past : ℕ) (h : read_as name_number (load_string_n bytes at) ≡ Ok (source, past)) where
    pub no_numbers : (e : Refusal) → read_numbers bytes past ≡ Err e → head_lent (read_head bytes at) ≡ Err e
    unfolding read_head
    no_numbers e k = rw ((was name_number (load_string_n bytes at) source past h).is, k)

    pub both : (n : Numbers) (end : ℕ) → read_numbers bytes past ≡ Ok (n, end)
        → head_lent (read_head bytes at) ≡ Ok (record { source = source; numbers = n })
    unfolding read_head
    both n end k = let w = was name_number (load_string_n bytes at) source past h in rw (w.is, k, w.gives)

-- the head at a place, by itself
module _ (at : ℕ) (bytes : List ℕ) where
  pub too_long : most_bytes < length bytes → head_lent (head_from at bytes) ≡ Err MalformedChunk
  unfolding head_from
  too_long h = rw (lt-leb (length bytes) most_bytes h)

  pub alone : length bytes ≤ most_bytes → head_lent (read_head bytes at) ≡ head_lent (head_from at bytes)
  unfolding head_from
  alone h = rw (le-leb (length bytes) most_bytes h)

-- the chosen function
module _ (k : Choice) (bytes : List ℕ) where
  pub not_there : (e : Refusal) → located_of (chosen_by k bytes) ≡ Err e → head_lent (head_of k bytes) ≡ Err e
  unfolding head_of
  not_there e h = go (chosen_by k bytes) h
    where
      go : (X : Outcome Function) → located_of X ≡ Err e → head_lent (bind X (λ f _. read_head bytes f.first_at)) ≡ Err e
      go (Ok (f, at)) d = absurd (cc)
      go (Err x) d = let w : x ≡ e = cc in ap (λ (y : Refusal). Err y) w

  module _ (l : Layout) (h : located_of (chosen_by k bytes) ≡ Ok l) where
    pub there : head_lent (read_head bytes l.first_at) ≡ head_lent (head_of k bytes)
    unfolding head_of
    there = go (chosen_by k bytes) h
      where
        go : (X : Outcome Function) → located_of X ≡ Ok l → head_lent (read_head bytes l.first_at) ≡ head_lent (bind X (λ f _. read_head bytes f.first_at))
        go (Ok (f, at)) d = let w : layout_of f ≡ l = cc in ap (λ (x : Layout). head_lent (read_head bytes x.first_at)) (sym w)
        go (Err x) d = absurd (cc)

    pub within_bytes : BytesBounded bytes
    within_bytes = go (chosen_by k bytes) refl h
      where
        go : (X : Outcome Function) → chosen_by k bytes ≡ X → located_of X ≡ Ok l → BytesBounded bytes
        go (Ok (f, at)) e d = short_enough bytes k f at e
        go (Err x) e d = absurd (cc)

-- the laws
module _ (bytes : List ℕ) where
  abbrev size : Head → ℕ → Outcome ℕ
  size h at = Ok (h.numbers.maxstacksize, at)

  abbrev stack : Numbers → ℕ → Outcome ℕ
  stack n at = Ok (n.maxstacksize, at)

  abbrev all : ℕ → ℕ → ℕ → ℕ → ℕ → Numbers
  all d l p v m = record { linedefined = d; lastlinedefined = l; numparams = p; is_vararg = v; maxstacksize = m }

  abbrev then4 : ℕ → ℕ → ℕ → ℕ → ℕ → Outcome Numbers
  then4 d l p v at = bind (load_byte bytes at) (λ m at₆. Ok (all d l p v m, at₆))

  abbrev then3 : ℕ → ℕ → ℕ → ℕ → Outcome Numbers
  then3 d l p at = bind (load_byte bytes at) (then4 d l p)

  abbrev then2 : ℕ → ℕ → ℕ → Outcome Numbers
  then2 d l at = bind (load_byte bytes at) (then3 d l)

  abbrev then1 : ℕ → ℕ → Outcome Numbers
  then1 d at = bind (load_int bytes at) (then2 d)

  g5 : (d l p v : ℕ) (X : Outcome ℕ) → X ≡ bind (bind X (λ m at₆. Ok (all d l p v m, at₆))) stack
  g5 d l p v (Ok (m, at)) = refl
  g5 d l p v (Err e) = refl

  g4 : (d l p : ℕ) (X : Outcome ℕ) → bind X (λ _ at. load_byte bytes at) ≡ bind (bind X (then4 d l p)) stack
  g4 d l p (Ok (v, at)) = g5 d l p v (load_byte bytes at)
  g4 d l p (Err e) = refl

  g3 : (d l : ℕ) (X : Outcome ℕ) → bind X (λ _ at. and_then load_byte load_byte bytes at) ≡ bind (bind X (then3 d l)) stack
  g3 d l (Ok (p, at)) = g4 d l p (load_byte bytes at)
  g3 d l (Err e) = refl

  g2 : (d : ℕ) (X : Outcome ℕ) → bind X (λ _ at. and_then load_byte (and_then load_byte load_byte) bytes at) ≡ bind (bind X (then2 d)) stack
  g2 d (Ok (l, at)) = g3 d l (load_byte bytes at)
  g2 d (Err e) = refl

  g1 : (X : Outcome ℕ) → bind X (λ _ at. and_then load_int (and_then load_byte (and_then load_byte load_byte)) bytes at) ≡ bind (bind X then1) stack
  g1 (Ok (d, at)) = g2 d (load_int bytes at)
  g1 (Err e) = refl

  numbers_same : (at : ℕ) → and_then load_int (and_then load_int (and_then load_byte (and_then load_byte load_byte))) bytes at ≡ bind (read_numbers bytes at) stack
  unfolding read_numbers
  numbers_same at = g1 (load_int bytes at)

  behind : (t : Text) (X : Outcome Numbers) → bind X stack ≡ bind (bind X (λ n at₂. Ok (record { source = t; numbers = n }, at₂))) size
  behind t (Ok (n, at)) = refl
  behind t (Err e) = refl

  source_first : (X : Outcome Text)
      → bind X (λ _ at. and_then load_int (and_then load_int (and_then load_byte (and_then load_byte load_byte))) bytes at)
      ≡ bind (bind X (λ t at₁. bind (read_numbers bytes at₁) (λ n at₂. Ok (record { source = t; numbers = n }, at₂)))) size
  source_first (Ok (t, at)) = numbers_same at ∙ behind t (read_numbers bytes at)
  source_first (Err e) = refl

  same_head : (at : ℕ) → load_head bytes at ≡ bind (read_head bytes at) size
  unfolding load_head read_head
  same_head at = source_first (load_string_n bytes at)

  has : (f : Function) (stack : ℕ) → load_head bytes f.first_at ≡ Ok (stack, f.code_at) → (h : Head) × (read_head bytes f.first_at ≡ Ok (h, f.code_at))
  has f stack e = go (read_head bytes f.first_at) refl (sym (same_head f.first_at) ∙ e)
    where
      go : (X : Outcome Head) → read_head bytes f.first_at ≡ X → bind X size ≡ Ok (stack, f.code_at)
          → (h : Head) × (read_head bytes f.first_at ≡ Ok (h, f.code_at))
      go (Ok (h, at)) r d =
          let w : at ≡ f.code_at = same_past h.numbers.maxstacksize stack at f.code_at d in
          (h, r ∙ ap (λ (n : ℕ). Ok (h, n)) w)
      go (Err x) r d = absurd (cc)

has_head : (k : Choice) (bytes : List ℕ) (f : Function) (at : ℕ) → chosen_by k bytes ≡ Ok (f, at) → (h : Head) × (head_of k bytes ≡ Ok (h, f.code_at))
unfolding head_of
has_head k bytes f at e =
    let s = stood (chosen_by k bytes) e (chosen_stands bytes k) in
    let x = has bytes f s.stack s.head in
    (x.0, ap (λ (X : Outcome Function). bind X (λ (g : Function) _. read_head bytes g.first_at)) e ∙ x.1)
  where
    stood : (X : Outcome Function) → X ≡ Ok (f, at) → OneRead bytes X → Stands bytes f
    stood X d o = rw d at o

pub head_laws : HeadLaws
head_laws = record { same_head = same_head; has_head = has_head }
