-- What a case of either version lists: operands read and written, and those written on one way on only.
-- Assumes nothing.
use Rattle.std.specs.Prelude.{ℕ, ◌+◌, ◌-◌, List, []}
use Rattle.steps.specs.Ways.{Case, vmdispatch}
use Rattle.touches.specs.Operands.{Operand}

-- "A write that happens on one step only, as with TESTSET or ADD, is listed with that step":
-- the edge to that successor
pub data OwnEdge : Type 0 where
  no_edge : OwnEdge
  «p+1» : OwnEdge
  «p+2» : OwnEdge
  «p+1-Bx» : OwnEdge
  -- in 5.3, where sBx is Bx - 131,071
  «p+1+sBx» : OwnEdge

-- the number of the word that it leads to, by p and Bx
abbrev pub edge_of : OwnEdge → ℕ → ℕ → ℕ
edge_of no_edge p bx = 0
edge_of «p+1» p bx = p + 1
edge_of «p+2» p bx = p + 2
edge_of «p+1-Bx» p bx = p + 1 - bx
edge_of «p+1+sBx» p bx = p + 1 + bx - 131071

pub record Accesses : Type 0 where
  pub reads : List Operand
  -- on every way on
  pub writes : List Operand
  -- on the way over this edge only
  pub edge : OwnEdge
  pub «edge-writes» : List Operand

abbrev pub always : List Operand → List Operand → Accesses
always reads writes = record { reads = reads; writes = writes; edge = no_edge; «edge-writes» = [] }

abbrev pub on_edge : List Operand → List Operand → OwnEdge → List Operand → Accesses
on_edge reads writes edge more = record { reads = reads; writes = writes; edge = edge; «edge-writes» = more }

-- what the case of an opcode lists, nothing where there is none
abbrev pub accesses_for : List (Case Accesses) → ℕ → Accesses
accesses_for cases o = vmdispatch cases (always [] []) o
