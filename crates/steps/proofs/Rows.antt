-- A word of Lua 5.4 by the numbers of its columns, as the pass and a single call read them, and the entry of its steps.
-- Assumes nothing.
use mathlib.Core.Path.{◌≡◌, ap, sym, subst, ◌∙◌}
use mathlib.Core.List.{List}
use Prim.Native.Nat.{ℕ, ◌+◌, ◌*◌, ◌/◌, ◌%◌, ◌<◌, ◌≤◌}
use native.Mathlib.Omega.{arith}
use lib.ListN.{length, get_or}
use Rattle.common.specs.Limits.{most_words}
use Rattle.fields.specs.lua54.Word.{opcode_of}
use Rattle.fields.specs.lua54.Table.{opcode_table}
use Rattle.fields.specs.lua54.Packed.{companion_and_class}
use Rattle.sweep.specs.declared.edges.Successors.{Successors}
use Rattle.sweep.specs.Steps.{unless}
use Rattle.sweep.specs.Entries.{Packs, Says}
use Rattle.steps.specs.lua54.Columns.{class_from, companion_from}
use Rattle.steps.specs.lua54.Successors.{next_of, stands_at, successors_of}
use Rattle.steps.proofs.Columns.{class_in, companion_in, class_of_byte, companion_of_byte}
use Rattle.steps.proofs.Words.{by_columns, packs}

module _ (ws : List ℕ) (p : ℕ) (inside : p < length ws) where
  -- the steps by the numbers
  abbrev pub row : ℕ → ℕ → Successors
  row companion class = unless (stands_at (companion_from companion) ws p) (next_of (class_from class) (length ws) (get_or ws p 0) p)

  -- as they are in a byte
  pub by_byte : {b : ℕ} → b ≡ companion_and_class (opcode_of (get_or ws p 0)) → (companion class : ℕ) → b / 16 ≡ companion → b % 16 ≡ class
      → row companion class ≡ successors_of ws p
  by_byte e companion class d f =
      by_columns ws p companion class inside
      (ap companion_from (sym d) ∙ companion_of_byte _ _ _ e) (ap class_from (sym f) ∙ class_of_byte _ _ _ e)

  -- and in the table
  pub by_table : {table : List ℕ} {a b : ℕ} → table ≡ opcode_table → a ≡ get_or table (opcode_of (get_or ws p 0) * 4 + 2) 0
      → b ≡ get_or table (opcode_of (get_or ws p 0) * 4 + 1) 0 → (companion class : ℕ) → a ≡ companion → b ≡ class → row companion class ≡ successors_of ws p
  by_table t c d companion class e f =
      by_columns ws p companion class inside
      (ap companion_from (sym e ∙ c) ∙ companion_in _ _ _ t) (ap class_from (sym f ∙ d) ∙ class_in _ _ _ t)

  -- steps that are the word's have an entry, which says them
  module _ (few : length ws ≤ most_words) {s : Successors} (e : s ≡ successors_of ws p) where
    pub asks : (p < most_words) × Packs p s
    asks = (omega arith, subst (λ (x : Successors). Packs p x) (sym e) (packs p ws few))

    pub says : {v : ℕ} → Says v p s → Says v p (successors_of ws p)
    says {v} y = subst (λ (x : Successors). Says v p x) e y
