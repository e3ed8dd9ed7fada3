-- A table of opcodes as the documents write it, rows of a first and a last one, and a C enumeration: of every
-- version.
-- Assumes nothing.
use Rattle.std.specs.Prelude.{ℕ, zero, suc, cond, List, [], ◌∷◌, leb}

-- the opcodes from the first to the last have what follows
pub data Row (X : Type 0) : Type 0 where
  row : ℕ → ℕ → X → Row X

-- what the first row that has the opcode says, or what all others have
abbrev pub lookup : {X : Type 0} → List (Row X) → X → ℕ → X
lookup [] others opcode = others
lookup (row first last x ∷ rows) others opcode =
    cond (leb first opcode) (cond (leb opcode last) x (lookup rows others opcode)) (lookup rows others opcode)

-- n numbers from the given one on
abbrev pub numbers : ℕ → ℕ → List ℕ
numbers i zero = []
numbers i (suc n) = i ∷ numbers (suc i) n
