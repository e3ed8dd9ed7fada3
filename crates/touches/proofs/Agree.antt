-- A case and its executions agree: tests of the 83 and of the 47 opcodes, which antt computes, and what they say of
-- any cell.
-- Assumes nothing.
use Prim.Native.Nat.{ℕ, ◌+◌, ◌<◌}
use mathlib.Core.Path.{◌≡◌, refl, ap, sym, subst, ◌∙◌}
use mathlib.Core.Logic.{◌⊎◌, inl, inr, ⊎_elim}
use mathlib.Core.Bool.{Bool, true, false, cond}
use mathlib.Core.List.{List, [], ◌∷◌}
use native.Mathlib.Omega.{arith}
use lib.Dec.{T, eqb, eqb→eq}
use Rattle.common.proofs.Tests.{left_of, right_of}
use Rattle.touches.specs.declared.arguments.Arguments.{Arguments}
use Rattle.fields.specs.Laws.{all}
use Rattle.fields.proofs.Laws.{laws}
use Rattle.touches.specs.Operands.{Operand, «R[A]», «R[A+1]», «R[A+2]», «R[A+3]», «R[A+1…A+B-1]», «R[A+1…A+B]», location_of}
use Rattle.touches.specs.Accesses.{OwnEdge, no_edge, «p+1», «p+2», «p+1-Bx», «p+1+sBx», Accesses}
use Rattle.touches.specs.Table.{operand_number, operand_from, edge_number, opcodes_of}
use Rattle.steps.specs.Executions.{Access, Arm, go_of}
use Rattle.touches.specs.Cells.{Cell, register, up_to_top, names}
use Rattle.fields.specs.declared.version.Version.{Version}
use Rattle.fields.specs.declared.version.Version.TheVariants.{Lua54, Lua53}
use Rattle.touches.specs.Versions.{accesses_of, Way, ways_of}
use Rattle.touches.specs.Touched.{way_reads, way_stores, Any, All}
use Rattle.touches.proofs.Rows.{operand_back}
use Rattle.touches.proofs.Choices.{every, some, one_of, every_any, every_all, some_any, some_all}
use Rattle.touches.proofs.Cells.{At, kind, index, one_register, past_first, meant, named}
use Rattle.touches.proofs.Ways.{leads}
use Rattle.touches.proofs.Sorts.{bars, barred, one_kind, tops_last}

-- Operands in lists

abbrev is_same : Operand → Operand → Bool
is_same x y = eqb (operand_number x) (operand_number y)

is-same : (x y : Operand) → T (is_same x y) → x ≡ y
is-same x y t = sym (operand_back x) ∙ (ap operand_from (eqb→eq (operand_number x) (operand_number y) t) ∙ operand_back y)

abbrev has : List Operand → Operand → Bool
has xs x = some (is_same x) xs

abbrev meants : List Access → List Operand
meants [] = []
meants (x ∷ xs) = meant x ∷ meants xs

abbrev reads : {Go : Type 0} → Arm Go → List Operand
reads w = meants (way_reads w)

abbrev stores : {Go : Type 0} → Arm Go → List Operand
stores w = meants (way_stores w)

-- what stands below the control variable of a numeric loop
abbrev below_control : List Operand
below_control = «R[A]» ∷ «R[A+1]» ∷ «R[A+2]» ∷ []

-- two operands that never stand for the same cell: the control variable of a numeric loop and what is below it
abbrev is_apart : Operand → Operand → Bool
is_apart x y = cond (has below_control x) (has («R[A+3]» ∷ []) y) false

-- The tests of a case

abbrev all_read : (v : Version) → Accesses → List (Way v) → Bool
all_read v a ways = every (λ (w : Way v). every (has a.reads) (reads w)) ways

abbrev read_somewhere : (v : Version) → Accesses → List (Way v) → Bool
read_somewhere v a ways = every (λ (x : Operand). some (λ (w : Way v). has (reads w) x) ways) a.reads

-- what a way stores is written on every way, or listed with the edge that it leads over
abbrev listed_store : (v : Version) → Accesses → Way v → Operand → Bool
listed_store v a w x = cond (has a.writes x) true (cond (leads v a.edge (go_of w)) (has a.«edge-writes» x) false)

abbrev all_listed : (v : Version) → Accesses → List (Way v) → Bool
all_listed v a ways = every (λ (w : Way v). every (listed_store v a w) (stores w)) ways

abbrev written_on_all : (v : Version) → Accesses → List (Way v) → Bool
written_on_all v a ways = every (λ (w : Way v). every (has (stores w)) a.writes) ways

abbrev written_over_edge : (v : Version) → Accesses → List (Way v) → Bool
written_over_edge v a ways =
    every (λ (x : Operand). some (λ (w : Way v). cond (leads v a.edge (go_of w)) (has (stores w) x) false) ways) a.«edge-writes»

-- what is listed with an edge is not written on some way
abbrev missing : (v : Version) → Operand → List (Way v) → Bool
missing v x ways = some (λ (w : Way v). every (is_apart x) (stores w)) ways

abbrev not_on_all : (v : Version) → Accesses → List (Way v) → Bool
not_on_all v a ways = every (λ (x : Operand). missing v x ways) a.«edge-writes»

-- what an answer has no list for
abbrev is_listed : Accesses → Bool
is_listed a =
    cond (every (bars 1) a.writes)
    (cond (every (bars 1) a.«edge-writes») (cond (every (bars 2) a.«edge-writes») (every (bars 3) a.«edge-writes») false) false)
    false

-- what an operand stands for is below the range up to the top that another can be
abbrev is_clear : Operand → Operand → Bool
is_clear x y = cond (bars 3 y) true (cond (is_same x y) true (cond (is_same «R[A]» x) (has («R[A+1…A+B-1]» ∷ «R[A+1…A+B]» ∷ []) y) false))

abbrev are_clear : List Operand → Bool
are_clear xs = every (λ (y : Operand). every (λ (x : Operand). is_clear x y) xs) xs

-- an edge has a register that is written over it
abbrev edge_told : Accesses → Bool
edge_told a = cond (eqb (edge_number a.edge) 0) true (cond (has a.«edge-writes» «R[A]») true (has a.«edge-writes» «R[A+2]»))

-- a word that writes has a way on
abbrev has_way : (v : Version) → Accesses → List (Way v) → Bool
has_way v a ways = cond (every (λ (x : Operand). false) a.writes) true (some (λ (w : Way v). true) ways)

abbrev tests : (v : Version) → Accesses → List (Way v) → List Bool
tests v a ways =
    all_read v a ways
    ∷ read_somewhere v a ways
    ∷ all_listed v a ways
    ∷ written_on_all v a ways
    ∷ written_over_edge v a ways
    ∷ not_on_all v a ways
    ∷ has_way v a ways
    ∷ is_listed a
    ∷ tops_last a.reads
    ∷ tops_last a.writes
    ∷ are_clear a.reads
    ∷ are_clear a.writes
    ∷ edge_told a
    ∷ []

pub record Agrees (v : Version) (a : Accesses) (ways : List (Way v)) : Type 0 where
  pub all-read : T (all_read v a ways)
  pub read-somewhere : T (read_somewhere v a ways)
  pub all-listed : T (all_listed v a ways)
  pub written-on-all : T (written_on_all v a ways)
  pub written-over-edge : T (written_over_edge v a ways)
  pub not-on-all : T (not_on_all v a ways)
  pub some_way : T (has_way v a ways)
  pub no_constants : T (every (bars 1) a.writes)
  pub no_edge_constants : T (every (bars 1) a.«edge-writes»)
  pub no_edge_upvalues : T (every (bars 2) a.«edge-writes»)
  pub no_edge_tops : T (every (bars 3) a.«edge-writes»)
  pub one_read_top : T (tops_last a.reads)
  pub one_written_top : T (tops_last a.writes)
  pub reads_clear : T (are_clear a.reads)
  pub writes_clear : T (are_clear a.writes)
  pub edge-told : T (edge_told a)

abbrev passes : List Bool → Bool
passes [] = true
passes (b ∷ bs) = cond b (passes bs) false

agrees_by : (v : Version) (a : Accesses) (ways : List (Way v)) → T (passes (tests v a ways)) → Agrees v a ways
agrees_by v a ways t =
    let t2 = right_of (all_read v a ways) _ t in
    let t3 = right_of (read_somewhere v a ways) _ t2 in
    let t4 = right_of (all_listed v a ways) _ t3 in
    let t5 = right_of (written_on_all v a ways) _ t4 in
    let t6 = right_of (written_over_edge v a ways) _ t5 in
    let t7 = right_of (not_on_all v a ways) _ t6 in
    let t8 = right_of (has_way v a ways) _ t7 in
    let t9 = right_of (is_listed a) _ t8 in
    let t10 = right_of (tops_last a.reads) _ t9 in
    let t11 = right_of (tops_last a.writes) _ t10 in
    let t12 = right_of (are_clear a.reads) _ t11 in
    let t13 = right_of (are_clear a.writes) _ t12 in
    let l = left_of (is_listed a) _ t8 in
    let l2 = right_of (every (bars 1) a.writes) _ l in
    let l3 = right_of (every (bars 1) a.«edge-writes») _ l2 in
    record {
      all-read = left_of (all_read v a ways) _ t;
      read-somewhere = left_of (read_somewhere v a ways) _ t2;
      all-listed = left_of (all_listed v a ways) _ t3;
      written-on-all = left_of (written_on_all v a ways) _ t4;
      written-over-edge = left_of (written_over_edge v a ways) _ t5;
      not-on-all = left_of (not_on_all v a ways) _ t6;
      some_way = left_of (has_way v a ways) _ t7;
      no_constants = left_of (every (bars 1) a.writes) _ l;
      no_edge_constants = left_of (every (bars 1) a.«edge-writes») _ l2;
      no_edge_upvalues = left_of (every (bars 2) a.«edge-writes») _ l3;
      no_edge_tops = right_of (every (bars 2) a.«edge-writes») _ l3;
      one_read_top = left_of (tops_last a.reads) _ t9;
      one_written_top = left_of (tops_last a.writes) _ t10;
      reads_clear = left_of (are_clear a.reads) _ t11;
      writes_clear = left_of (are_clear a.writes) _ t12;
      edge-told = left_of (edge_told a) _ t13;
    }

agrees_at : Version → ℕ → Bool
agrees_at v o = passes (tests v (accesses_of v o) (ways_of v o))

agrees_below : (v : Version) → T (all (agrees_at v) (opcodes_of v))
unfolding agrees_at accesses_of ways_of
agrees_below Lua54 = tt
agrees_below Lua53 = tt

pub agree : (v : Version) (o : ℕ) → o < opcodes_of v → Agrees v (accesses_of v o) (ways_of v o)
unfolding agrees_at
agree v o h = agrees_by v (accesses_of v o) (ways_of v o) (laws.each_below (agrees_at v) (opcodes_of v) (agrees_below v) o h)

-- What the tests say of a cell c in a word i, between pi and ni

module _ (i pi ni : Arguments) (c : Cell) where
  -- the cell is one that the operand stands for
  abbrev pub Is : Operand → Type 0
  Is x = At c (location_of x i pi.a ni.ax)

  abbrev Touched : List Access → Type 0
  Touched xs = Any (names i pi ni c) xs

  from_accesses : (xs : List Access) → Touched xs → Any Is (meants xs)
  from_accesses [] t = t
  from_accesses (x ∷ xs) t = ⊎_elim (λ h. inl ((named i pi ni c x).0 h)) (λ h. inr (from_accesses xs h)) t

  into_accesses : (xs : List Access) → Any Is (meants xs) → Touched xs
  into_accesses [] t = t
  into_accesses (x ∷ xs) t = ⊎_elim (λ h. inl ((named i pi ni c x).1 h)) (λ h. inr (into_accesses xs h)) t

  -- an operand of a list
  found : (x : Operand) (xs : List Operand) → T (has xs x) → Is x → Any Is xs
  found x xs t h = some_any Is (is_same x) xs t (λ y s. subst Is (is-same x y s) h)

  -- operands that are apart stand for no common cell
  low : (x : Operand) → T (has below_control x) → Is x → index c < i.a + 3
  low x t h =
      ⊎_elim (λ e. omega (arith, ap index ((one_register i.a (i.a + 1) (omega arith) c).1 e)))
      (⊎_elim (λ e. omega (arith, ap index ((one_register (i.a + 1) (i.a + 2) (omega arith) c).1 e)))
      (⊎_elim (λ e. omega (arith, ap index ((one_register (i.a + 2) (i.a + 3) (omega arith) c).1 e))) (λ b. absurd b)))
      (found x below_control t h)

  high : (y : Operand) → T (has («R[A+3]» ∷ []) y) → Is y → index c ≡ i.a + 3
  high y t h =
      ⊎_elim (λ e. ap index ((one_register (i.a + 3) (i.a + 4) (omega arith) c).1 e)) (λ b. absurd b) (found y («R[A+3]» ∷ []) t h)

  apart : (x y : Operand) → T (is_apart x y) → Is x → Is y → ⊥
  apart x y t h k =
      let below = low x (left_of (has below_control x) _ t) h in
      let above = high y (right_of (has below_control x) _ t) k in
      omega (arith, below, above)

  module _ (v : Version) (a : Accesses) (ways : List (Way v)) (agrees : Agrees v a ways) where
    abbrev ReadOn : Way v → Type 0
    ReadOn w = Touched (way_reads w)

    abbrev StoredOn : Way v → Type 0
    StoredOn w = Touched (way_stores w)

    pub reads_from : Any ReadOn ways → Any Is a.reads
    reads_from r =
        every_any ReadOn (λ (w : Way v). every (has a.reads) (reads w)) ways agrees.all-read r
        (λ w t h. every_any Is (has a.reads) (reads w) t (from_accesses (way_reads w) h) (λ x s g. found x a.reads s g))

    pub reads_into : Any Is a.reads → Any ReadOn ways
    reads_into r =
        every_any Is (λ (x : Operand). some (λ (w : Way v). has (reads w) x) ways) a.reads agrees.read-somewhere r
        (λ x t h. some_any ReadOn (λ (w : Way v). has (reads w) x) ways t (λ w s. into_accesses (way_reads w) (found x (reads w) s h)))

    -- what is written on every way
    every_way : Any Is a.writes → All StoredOn ways
    every_way r =
        every_all StoredOn (λ (w : Way v). every (has (stores w)) a.writes) ways agrees.written-on-all
        (λ w t. into_accesses (way_stores w) (every_any Is (has (stores w)) a.writes t r (λ x s h. found x (stores w) s h)))

    -- what is listed with an edge is not
    not_every_way : Any Is a.«edge-writes» → All StoredOn ways → ⊥
    not_every_way r all =
        every_any Is (λ (x : Operand). missing v x ways) a.«edge-writes» agrees.not-on-all r
        (λ x t h.
        some_all StoredOn (λ (w : Way v). every (is_apart x) (stores w)) ways t all
        (λ w s k. every_any Is (is_apart x) (stores w) s (from_accesses (way_stores w) k) (λ y u g. apart x y u h g)))

    -- a store is listed
    listed : (w : Way v) → T (every (listed_store v a w) (stores w)) → StoredOn w
        → Any Is a.writes ⊎ (T (leads v a.edge (go_of w)) × Any Is a.«edge-writes»)
    listed w t k =
        every_any Is (listed_store v a w) (stores w) t (from_accesses (way_stores w) k)
        (λ x s h.
        ⊎_elim (λ u. inl (found x a.writes u h))
        (λ u. inr (left_of (leads v a.edge (go_of w)) _ u, found x a.«edge-writes» (right_of (leads v a.edge (go_of w)) _ u) h))
        (one_of (has a.writes x) _ s))

    pub writes_from : Any StoredOn ways × All StoredOn ways → Any Is a.writes
    writes_from r =
        every_any StoredOn (λ (w : Way v). every (listed_store v a w) (stores w)) ways agrees.all-listed r.0
        (λ w t k. ⊎_elim (λ h. h) (λ (h : T (leads v a.edge (go_of w)) × Any Is a.«edge-writes»). absurd (not_every_way h.1 r.1)) (listed w t k))

    pub writes_into : Any Is a.writes → Any StoredOn ways × All StoredOn ways
    writes_into r = (
      ⊎_elim (λ t. every_any Is (λ (x : Operand). false) a.writes t r (λ x s h. absurd s)) (λ t. some-of ways t (every_way r))
          (one_of (every (λ (x : Operand). false) a.writes) _ agrees.some_way),
      every_way r,
    )
      where
        some-of : (ws : List (Way v)) → T (some (λ (w : Way v). true) ws) → All StoredOn ws → Any StoredOn ws
        some-of [] t all = absurd t
        some-of (w ∷ ws) t all = inl all.0

    -- over the edge, for what it means that a way leads to a word
    module _ (Leads : Way v → Type 0) where
      pub edge-from :
          {Q : Type 0} → Any (λ (w : Way v). Leads w × StoredOn w) ways → (All StoredOn ways → ⊥) →
          ((w : Way v) → Leads w → T (leads v a.edge (go_of w)) → Any Is a.«edge-writes» → Q) → Q
      edge-from r none f =
          every_any (λ (w : Way v). Leads w × StoredOn w) (λ (w : Way v). every (listed_store v a w) (stores w)) ways agrees.all-listed r
          (λ w t (k : Leads w × StoredOn w).
          ⊎_elim (λ h. absurd (none (every_way h))) (λ (h : T (leads v a.edge (go_of w)) × Any Is a.«edge-writes»). f w k.0 h.0 h.1)
          (listed w t k.1))

      pub edge_into :
          ((w : Way v) → T (leads v a.edge (go_of w)) → Leads w) → Any Is a.«edge-writes» →
          Any (λ (w : Way v). Leads w × StoredOn w) ways × (All StoredOn ways → ⊥)
      edge_into over r = (
        every_any Is
            (λ (x : Operand).
            some (λ (w : Way v). cond (leads v a.edge (go_of w)) (has (stores w) x) false) ways)
            a.«edge-writes» agrees.written-over-edge r
            (λ x t h.
            some_any (λ (w : Way v). Leads w × StoredOn w) (λ (w : Way v). cond (leads v a.edge (go_of w)) (has (stores w) x) false) ways t
            (λ w s. (
              over w (left_of (leads v a.edge (go_of w)) _ s),
              into_accesses (way_stores w) (found x (stores w) (right_of (leads v a.edge (go_of w)) _ s) h),
            ))),
        not_every_way r,
      )

    -- kinds that an answer has no list for
    pub never : (k : ℕ) (xs : List Operand) → T (every (bars k) xs) → kind c ≡ k → Any Is xs → ⊥
    never k xs t e r =
        every_any Is (bars k) xs t r (λ x s h. barred i pi.a ni.ax c x (subst (λ (m : ℕ). T (bars m x)) (sym e) s) h)

    -- what is stored up to the top is so on every way
    pub tops_from : kind c ≡ 3 → Any StoredOn ways → Any Is a.writes
    tops_from e r =
        every_any StoredOn (λ (w : Way v). every (listed_store v a w) (stores w)) ways agrees.all-listed r
        (λ w t k.
        ⊎_elim (λ h. h)
        (λ (h : T (leads v a.edge (go_of w)) × Any Is a.«edge-writes»). absurd (never 3 a.«edge-writes» agrees.no_edge_tops e h.1))
        (listed w t k))

edge_is : (e : OwnEdge) → edge_number e ≡ 0 → e ≡ no_edge
edge_is no_edge h = refl
edge_is «p+1» h = absurd (omega (arith, h))
edge_is «p+2» h = absurd (omega (arith, h))
edge_is «p+1-Bx» h = absurd (omega (arith, h))
edge_is «p+1+sBx» h = absurd (omega (arith, h))

module _ (i pi ni : Arguments) where
  -- if no register is written over an edge, there is none
  pub no-edge : (a : Accesses) → T (edge_told a) → ((q : ℕ) → Any (Is i pi ni (register q)) a.«edge-writes» → ⊥) → a.edge ≡ no_edge
  no-edge a t none =
      ⊎_elim (λ u. edge_is a.edge (eqb→eq (edge_number a.edge) 0 u))
      (λ u.
      ⊎_elim
      (λ v. absurd (none i.a (found i pi ni (register i.a) «R[A]» a.«edge-writes» v
      ((one_register i.a (i.a + 1) (omega arith) (register i.a)).0 refl))))
      (λ v. absurd (none (i.a + 2) (found i pi ni (register (i.a + 2)) «R[A+2]» a.«edge-writes» v
      ((one_register (i.a + 2) (i.a + 3) (omega arith) (register (i.a + 2))).0 refl))))
      (one_of (has a.«edge-writes» «R[A]») _ u))
      (one_of (eqb (edge_number a.edge) 0) _ t)

  module _ (q f : ℕ) where
    past_a : (y : Operand) → T (has («R[A+1…A+B-1]» ∷ «R[A+1…A+B]» ∷ []) y) → Is i pi ni (up_to_top f) y → f ≡ i.a + 1
    past_a y t k =
        ⊎_elim (λ h. past_first i.b (i.a + 1) (i.a + 1) (i.a + i.b) f h)
        (⊎_elim (λ h. past_first i.b (i.a + 1) (i.a + 1) (i.a + i.b + 1) f h) (λ b. absurd b))
        (found i pi ni (up_to_top f) y («R[A+1…A+B-1]» ∷ «R[A+1…A+B]» ∷ []) t k)

    is_a : (x : Operand) → T (is_same «R[A]» x) → Is i pi ni (register q) x → q ≡ i.a
    is_a x t h = ap index ((one_register i.a (i.a + 1) (omega arith) (register q)).1 (subst (Is i pi ni (register q)) (sym (is-same «R[A]» x t)) h))

    clear : (x y : Operand) → T (is_clear x y) → Is i pi ni (register q) x → Is i pi ni (up_to_top f) y → q < f
    clear x y t h k =
        ⊎_elim (λ u. absurd (barred i pi.a ni.ax (up_to_top f) y u k))
        (λ u.
        ⊎_elim
        (λ v. absurd (omega (arith, one_kind (register q) (up_to_top f) (location_of y i pi.a ni.ax) (subst (Is i pi ni (register q)) (is-same x y v) h) k)))
        (λ v. omega (arith, is_a x (left_of (is_same «R[A]» x) _ v) h, past_a y (right_of (is_same «R[A]» x) _ v) k))
        (one_of (is_same x y) _ u))
        (one_of (bars 3 y) _ t)

    pub all_clear : (xs : List Operand) → T (are_clear xs) → Any (Is i pi ni (register q)) xs → Any (Is i pi ni (up_to_top f)) xs → q < f
    all_clear xs t h k =
        every_any (Is i pi ni (up_to_top f)) (λ (y : Operand). every (λ (x : Operand). is_clear x y) xs) xs t k
        (λ y s g. every_any (Is i pi ni (register q)) (λ (x : Operand). is_clear x y) xs s h (λ x u e. clear x y u e g))
