-- loadFunction's head with all that it reads, where load_head of lundump/specs/Lundump.antt keeps the last
-- number only; and what is told of it.
-- Assumes nothing.
use Rattle.std.specs.Prelude.{◌≡◌, List, ℕ, leb, length}
use Rattle.common.specs.Numbers.{«ACCEPTED»}
use Rattle.common.specs.Limits.{most_bytes}
use Rattle.common.specs.declared.refusal.Refusal.{Refusal}
use Rattle.lines.specs.declared.heads.FlatHead.{FlatHead}
use Rattle.common.specs.Refusals.{refusal_number, refusal_place}
use Rattle.std.specs.Prelude.{Result, Ok, Err}
use Rattle.lines.specs.declared.heads.Numbers.{Numbers}
use Rattle.lines.specs.declared.heads.HeadRead.{HeadRead}
use Rattle.loaders.specs.Reading.{Outcome, Reader, bind, only}
use Rattle.loaders.specs.Loaders.{Text, load_byte, load_int, load_string_n}
use Rattle.lundump.specs.Lundump.{Function, load_head}
use Rattle.loaders.specs.Lent.{name_number}
use Rattle.lines.specs.declared.choosing.Choice.{Choice}
use Rattle.lines.specs.Choices.{chosen_by}

pub record Head : Type 0 where
  -- absent in a stripped chunk, and in a function within another of the same source: "no source in dump?
  -- .. reuse parent's source"
  pub source : Text
  pub numbers : Numbers

unfoldable pub read_numbers : Reader Numbers
read_numbers bytes at =
    bind (load_int bytes at) (λ linedefined at₂.
    bind (load_int bytes at₂) (λ lastlinedefined at₃.
    bind (load_byte bytes at₃) (λ numparams at₄.
    bind (load_byte bytes at₄) (λ is_vararg at₅.
    bind (load_byte bytes at₅) (λ maxstacksize at₆.
    Ok (
      record {
        linedefined = linedefined;
        lastlinedefined = lastlinedefined;
        numparams = numparams;
        is_vararg = is_vararg;
        maxstacksize = maxstacksize;
      },
      at₆,
    ))))))

unfoldable pub read_head : Reader Head
read_head bytes at =
    bind (load_string_n bytes at) (λ source at₁.
    bind (read_numbers bytes at₁) (λ numbers at₂.
    Ok (record { source = source; numbers = numbers }, at₂)))

-- of the chosen function, at its first byte
unfoldable pub head_of : Choice → List ℕ → Outcome Head
head_of c bytes = bind (chosen_by c bytes) (λ f _. read_head bytes f.first_at)

-- that of the function whose first byte stands there, by itself: nothing behind it is read
unfoldable pub head_from : ℕ → List ℕ → Outcome Head
head_from at bytes = only (leb (length bytes) most_bytes) (read_head bytes at)

-- a refusal's number and place
abbrev pub head_refused : Refusal → FlatHead
head_refused e =
    record {
      number = refusal_number e;
      place = refusal_place e;
      source = 0;
      linedefined = 0;
      lastlinedefined = 0;
      numparams = 0;
      is_vararg = 0;
      maxstacksize = 0;
    }

-- the source's place as a name's is told, "2^64 - 1 meaning" that the chunk has none here
abbrev pub head_lent : Outcome Head → Result HeadRead Refusal
head_lent (Ok (h, at)) = Ok (record { source = name_number h.source; numbers = h.numbers })
head_lent (Err e) = Err e

abbrev pub flat_head : Result HeadRead Refusal → FlatHead
flat_head (Ok h) =
    record {
      number = «ACCEPTED»;
      place = 0;
      source = h.source;
      linedefined = h.numbers.linedefined;
      lastlinedefined = h.numbers.lastlinedefined;
      numparams = h.numbers.numparams;
      is_vararg = h.numbers.is_vararg;
      maxstacksize = h.numbers.maxstacksize;
    }
flat_head (Err e) = head_refused e

-- what is told of a head
abbrev pub head_told : Outcome Head → FlatHead
head_told head = flat_head (head_lent head)

pub record HeadLaws : Type 0 where
  -- it reads what load_head passes over
  pub same_head : (bytes : List ℕ) (at : ℕ)
      → load_head bytes at ≡ bind (read_head bytes at) (λ h at₁. Ok (h.numbers.maxstacksize, at₁))
  -- so whatever function was chosen has a head
  pub has_head :
      (c : Choice) (bytes : List ℕ) (f : Function) (at : ℕ) → chosen_by c bytes ≡ Ok (f, at)
      → (h : Head) × (head_of c bytes ≡ Ok (h, f.code_at))
