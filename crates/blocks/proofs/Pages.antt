-- Words that wait, page by page, and the tables at the start. Assumes nothing.
use mathlib.Core.Path.{◌≡◌, refl, sym, ap, subst, ◌∙◌}
use mathlib.Core.Logic.{⊎_elim}
use mathlib.Core.Bool.{Bool, true, false, ◌&&◌, false≢true}
use mathlib.Core.List.{List}
use Prim.Native.Nat.{ℕ, ◌+◌, ◌*◌, ◌/◌, ◌≤◌, ◌<◌, max, min}
use native.Mathlib.Omega.{arith}
use borrow.Author.Tests.{ltb-true, eqb-true}
use lib.Dec.{ltb, eqb}
use lib.ListN.{length, get_or, set, length-set}
use lib.Seq.{get_or-set_same, get_or-set_other}
use Rattle.common.specs.Lists.{over}
use Rattle.common.proofs.Order.{split, same_or_not}
use Rattle.common.proofs.Over.{over_laws}
use Rattle.fields.specs.declared.version.Version.TheVariants.{Lua54}
use Rattle.sweep.specs.declared.edges.Successors.{Successors}
use Rattle.sweep.specs.declared.edges.Successors.TheVariants.{One, Two}
use Rattle.sweep.specs.Steps.{Below}
use Rattle.steps.specs.lua54.Successors.{successors_of}
use Rattle.runs.proofs.Laws as runs
use Rattle.blocks.specs.Blocks.{«EVERY», WordWaits, Paged, NoneWaits, SearchRoom, JoinAsks, SpreadAsks, Started}

module _ (waiting : List ℕ) where
  pub none_more : (i p : ℕ) → NoneWaits waiting i p → (WordWaits waiting p → ⊥) → NoneWaits waiting i (p + 1)
  none_more i p h n q a b w =
      ⊎_elim
      (λ e. n (subst (λ (x : ℕ). WordWaits waiting x) e w))
      (λ d. h q a (past_not q b d) w)
      (same_or_not q p)
    where
      past_not : (q : ℕ) → q < p + 1 → (q ≡ p → ⊥) → q < p
      past_not q b d = omega arith

  pub waits_at : (p n : ℕ) → ltb p n && eqb (get_or waiting p 0) 1 ≡ true → (p < n) × WordWaits waiting p
  waits_at p n e = go (ltb p n) refl (eqb (get_or waiting p 0) 1) refl e
    where
      go : (a : Bool) → ltb p n ≡ a → (b : Bool) → eqb (get_or waiting p 0) 1 ≡ b → a && b ≡ true → (p < n) × WordWaits waiting p
      go true d true f h = (ltb-true p n d, eqb-true _ 1 f)
      go true d false f h = absurd (false≢true h)
      go false d b f h = absurd (false≢true h)

  pub none_both : (i m p : ℕ) → NoneWaits waiting i m → NoneWaits waiting m p → NoneWaits waiting i p
  none_both i m p h l q a b w = ⊎_elim (λ d. l q d b w) (λ d. h q a d w) (split m q)

  -- page by page: of n words, from word i on
  module _ (pages : List ℕ) (n i page : ℕ) where
    pub page_quiet : Paged n waiting pages → get_or pages page 0 ≡ 0 → NoneWaits waiting (max i (page * 128)) (min n ((page + 1) * 128))
    page_quiet paged z q a b w =
        let s : q / 128 ≡ page = omega arith in
        let o = paged q (omega arith) w in
        let f = ap (λ (x : ℕ). get_or pages x 0) s in
        omega arith

    pub page_cleared : i ≤ page * 128 → Paged n waiting pages → NoneWaits waiting (max i (page * 128)) (min n ((page + 1) * 128))
        → Paged n waiting (set pages page 0)
    page_cleared l paged none q h w =
        ⊎_elim
        (λ s. absurd (none q (omega arith) (omega arith) w))
        (λ s. get_or-set_other pages page (q / 128) 0 0 s ∙ paged q h w)
        (same_or_not (q / 128) page)

-- who is asked to wait
asks_at : {unset waiting pages : List ℕ} {s : Successors} (k : SpreadAsks s unset waiting pages) (q : ℕ) → q < k.size → JoinAsks unset waiting pages q
asks_at k q h =
    record {
      in_unset = omega (arith, k.unset_long);
      in_waiting = omega (arith, k.waiting_long);
      in_pages = omega (arith, k.few, k.pages_same);
    }

pub asks_one : {unset waiting pages : List ℕ} {s : Successors} (a : ℕ) → SpreadAsks s unset waiting pages → s ≡ One a → JoinAsks unset waiting pages a
asks_one a k e = asks_at k a (subst (λ (x : Successors). Below k.size x) e k.below)

pub asks_first : {unset waiting pages : List ℕ} {s : Successors} (a b : ℕ) → SpreadAsks s unset waiting pages → s ≡ Two a b → JoinAsks unset waiting pages a
asks_first a b k e = let h = subst (λ (x : Successors). Below k.size x) e k.below in asks_at k a (omega (arith, h.0, h.1))

pub asks_second :
    {unset waiting pages unset' waiting' pages' : List ℕ} {s : Successors} (a b : ℕ) → SpreadAsks s unset waiting pages → s ≡ Two a b
    → length unset' ≡ length unset → length waiting' ≡ length waiting → length pages' ≡ length pages → JoinAsks unset' waiting' pages' b
asks_second a b k e u w g =
    let h = subst (λ (x : Successors). Below k.size x) e k.below in
    record {
      in_unset = omega (arith, h.1, k.unset_long);
      in_waiting = omega (arith, h.1, k.waiting_long);
      in_pages = omega (arith, h.1, k.few, k.pages_same);
    }

pub asks_words :
    (ws : List ℕ) (p : ℕ) {unset waiting pages : List ℕ} {s : Successors} → SearchRoom ws unset waiting pages → s ≡ successors_of ws p
    → SpreadAsks s unset (set waiting p 0) pages
asks_words ws p o e =
    record {
      size = length ws;
      below = subst (λ (x : Successors). Below (length ws) x) (sym e) (((runs.laws).sound Lua54 ws).below p);
      few = o.few;
      unset_long = o.unset_long;
      waiting_long = simp length-set o.waiting_long;
      pages_same = o.pages_same;
    }

-- at the start
pub started :
    (ws unset waiting pages : List ℕ) {unset' waiting' : List ℕ} → SearchRoom ws unset waiting pages → unset' ≡ over (λ p. 0) (length ws) unset
    → waiting' ≡ over (λ p. 0) (length ws) waiting → length unset' ≡ length unset → length waiting' ≡ length waiting
    → Started (length ws) (set unset' 0 «EVERY») (set waiting' 0 1) (set pages 0 1)
started ws unset waiting pages {unset'} {waiting'} o u w ul wl =
    record {
      unset_long = simp length-set (omega (arith, o.unset_long));
      waiting_long = simp length-set (omega (arith, o.waiting_long));
      pages_same = simp length-set o.pages_same;
      first = get_or-set_same unset' 0 «EVERY» 0 (omega (arith, o.some, o.unset_long));
      others = λ p a h.
          get_or-set_other unset' 0 p «EVERY» 0 (λ e. omega arith) ∙ ap (λ (x : List ℕ). get_or x p 0) u ∙ over_laws.at (λ p. 0) (length ws) unset p h;
      waits = get_or-set_same waiting' 0 1 0 (omega (arith, o.some, o.waiting_long));
      quiet = λ p a h.
          get_or-set_other waiting' 0 p 1 0 (λ e. omega arith) ∙ ap (λ (x : List ℕ). get_or x p 0) w ∙ over_laws.at (λ p. 0) (length ws) waiting p h;
      page = get_or-set_same pages 0 1 0 (omega (arith, o.pages_same));
    }
