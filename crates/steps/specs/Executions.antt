-- What an execution of a word reads and stores, as lvm.c names it, and the ways on of a case of its switch:
-- what specs/lua54/Lvm.antt and specs/lua53/Lvm.antt share. What the names stand for in a word says
-- touches/specs/Cells.antt.
-- Assumes nothing.
use Rattle.std.specs.Prelude.{List, [], ◌∷◌, ◌++◌}

-- What a case reads or stores, as the C names it.
pub data Access : Type 0 where
  «ra» : Access
  «ra+1» : Access
  «ra+2» : Access
  «ra+3» : Access
  «ra+4» : Access
  v_rb : Access
  v_rc : Access
  RKC : Access
  KB : Access
  KC : Access
  -- k + GETARG_Bx(i)
  «k+Bx» : Access
  -- k + GETARG_Ax(*pc)
  «k+Ax» : Access
  -- RA(pi), where pi is *(pc - 2)
  «RA-pi» : Access
  -- cl->upvals[GETARG_A(i)]
  «upvals[A]» : Access
  -- cl->upvals[GETARG_B(i)]
  «upvals[B]» : Access
  -- do { setnilvalue(s2v(ra++)); } while (b--);
  nils : Access
  -- "CALL, TAILCALL, TFORCALL and CONCAT go by their formulas in lopcodes.h": R[A].. ... ..R[A + B - 1]
  pieces : Access
  -- R[A+1], ... ,R[A+B-1], "if (B == 0) then B = top - A"
  arguments : Access
  -- R[A], ... ,R[A+C-2], "if (C == 0), then 'top' is set to last_result+1"; of VARARG the values that
  -- luaT_getvarargs copies, C - 1 or all
  results : Access
  -- R[A+4], ... ,R[A+3+C]
  iterated : Access
  -- the n values from ra on that luaD_poscall moves: n = GETARG_B(i) - 1, or L->top.p - ra
  returned : Access
  -- for (; n > 0; n--) { TValue *val = s2v(ra + n); .. }, where n = GETARG_B(i), or L->top.p - ra - 1
  elements : Access
  -- 5.3.6: ISK(GETARG_B(i)) ? k+INDEXK(GETARG_B(i)) : base+GETARG_B(i), and the same of C;
  -- its RB(i) is vRB's register
  RKB-isk : Access
  RKC-isk : Access
  -- 5.3.6, "CONCAT [goes] by [its] formula": R(B).. ... ..R(C)
  concatenated : Access
  -- 5.3.6: R(A+3), ... ,R(A+2+C)
  called : Access
  -- 5.3.6: for (j = 0; j < b && j < n; j++) .. for (; j < b; j++) .. ra + j, where b = GETARG_B(i) - 1,
  -- or n with L->top = ra + n
  varargs : Access

-- An execution of a case: what it reads, and what it stores.
pub data Execution : Type 0 where
  run : List Access → List Access → Execution

-- A way on, where to being what a version calls it, and the executions that take it.
pub data Arm (Go : Type 0) : Type 0 where
  arm : Go → List Execution → Arm Go

-- The ways on alone, of a case too, and all that they lead to.
abbrev pub go_of : {Go : Type 0} → Arm Go → Go
go_of (arm go runs) = go

abbrev pub gos_of : {Go : Type 0} → List (Arm Go) → List Go
gos_of [] = []
gos_of (way ∷ ways) = go_of way ∷ gos_of ways

abbrev pub leading_to : {Go X : Type 0} → (Go → List X) → List Go → List X
leading_to onward [] = []
leading_to onward (go ∷ gos) = onward go ++ leading_to onward gos
