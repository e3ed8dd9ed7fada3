-- A meter whose feeds are each lent weights of their own: "Its count is then still what the words
-- since the last service weighed, each by the weights of its own feed, and nothing is lost or wraps"
-- (include/lawendeb.h; request C-17 asks for the same weights only of a meter compared with a run).
-- The book keeps with each word what it weighed when it was fed. proofs/Changing.antt proves `FollowsBook`
-- for any sound script of at most 32,768 words, any meter just begun and any list of calls;
-- a table that 18 refuses is answered 18, and changes nothing.
-- A feed that counts on from the larger of the count and what the last word weighs by its own table is
-- the same with weights that stay, where a count is never below what the last word weighs. So `FollowsModel`
-- can't tell it apart, and this can: two words, of which the first weighs more by the second feed's table.
-- Tried in code and definition alike, it is refused at `next_fed` of proofs/Changing.antt, and by its shape
-- at that of proofs/Calls.antt.
-- Assumes nothing.
use Rattle.std.specs.Prelude.{◌≡◌, Bool, cond, List, [], ◌∷◌, ◌++◌, ℕ, ◌+◌, ◌≤◌, min, get_or}
use Rattle.common.specs.Numbers.{«ACCEPTED», NO_STEP, WEIGHTS_REFUSED}
use Rattle.common.specs.Limits.{heaviest_weight}
use Rattle.graph.specs.Graph.{Graph}
use Rattle.runs.specs.Script.{Script, graph_of, weight_of}
use Rattle.runs.specs.Weights.{refuses_weights}
use Rattle.meter.specs.declared.step.Meter.{Meter}
use Rattle.meter.specs.Feed.{scale_of, is_begun, begin_of, reset_of, feed_of}
use Rattle.meter.specs.Model.{writes, serves_to, has_word, last_or0, any_serves}

-- a call, of which a feed has its own weights
pub data ChangingCall : Type 0 where
  begin : ChangingCall
  feed : List ℕ → ℕ → ChangingCall
  reset : ChangingCall

-- a word that was written down, and what it weighed then
pub record Entry : Type 0 where
  pub word : ℕ
  pub weight : ℕ

pub record Book : Type 0 where
  pub path : List Entry
  pub tally : ℕ

abbrev pub empty : Book
empty = record { path = []; tally = 0 }

abbrev pub entry_words : List Entry → List ℕ
entry_words [] = []
entry_words (e ∷ es) = e.word ∷ entry_words es

abbrev pub entries_sum : List Entry → ℕ
entries_sum [] = 0
entries_sum (e ∷ es) = e.weight + entries_sum es

-- those "from the word its last serving step leads to (all of them if none serves ..)"
abbrev pub entries_since_service : Graph → Entry → List Entry → List Entry
entries_since_service g e [] = e ∷ []
entries_since_service g e (f ∷ fs) =
    cond (any_serves g e.word (entry_words (f ∷ fs))) (entries_since_service g f fs) (e ∷ f ∷ fs)

-- what they weighed, each at its own feed
abbrev pub weighed_since : Graph → List Entry → ℕ
weighed_since g [] = 0
weighed_since g (e ∷ es) = entries_sum (entries_since_service g e es)

module _ (ws : Script) where
  -- a feed whose table is not refused writes as the reference model does
  abbrev pub written : Book → List ℕ → ℕ → Bool → Book
  written b weights q t =
      cond t
      (record {
        path = b.path ++ (record { word = q; weight = weight_of ws weights q } ∷ []);
        tally = cond (serves_to (graph_of ws) (entry_words b.path) q) (b.tally + 1) b.tally;
      })
      b

  abbrev pub book_fed : Book → List ℕ → ℕ → Book
  book_fed b weights q =
      cond (refuses_weights weights) b (written b weights q (writes (graph_of ws) (entry_words b.path) q))

  abbrev pub book_called : Book → ChangingCall → Book
  book_called b begin = record { path = []; tally = b.tally }
  book_called b (feed weights q) = book_fed b weights q
  book_called b reset = b

  abbrev pub book_after : Book → List ChangingCall → Book
  book_after b [] = b
  book_after b (c ∷ cs) = book_after (book_called b c) cs

  abbrev pub book_answer : Book → List ℕ → ℕ → ℕ
  book_answer b weights q = cond (refuses_weights weights) WEIGHTS_REFUSED
      (cond (writes (graph_of ws) (entry_words b.path) q) «ACCEPTED» NO_STEP)

  abbrev pub book_answers : Book → List ChangingCall → List ℕ
  book_answers b [] = []
  book_answers b (begin ∷ cs) = book_answers (book_called b begin) cs
  book_answers b (feed weights q ∷ cs) = book_answer b weights q ∷ book_answers (book_fed b weights q) cs
  book_answers b (reset ∷ cs) = book_answers b cs

  -- the meter, by the definitions that the contracts cite
  abbrev pub changing_called : Meter → ChangingCall → Meter
  changing_called m begin = begin_of m
  changing_called m (feed weights q) = (feed_of (scale_of ws weights) m q).meter
  changing_called m reset = reset_of m

  abbrev pub changing_after : Meter → List ChangingCall → Meter
  changing_after m [] = m
  changing_after m (c ∷ cs) = changing_after (changing_called m c) cs

  abbrev pub changing_answers : Meter → List ChangingCall → List ℕ
  changing_answers m [] = []
  changing_answers m (begin ∷ cs) = changing_answers (begin_of m) cs
  changing_answers m (feed weights q ∷ cs) = (feed_of (scale_of ws weights) m q).answer.number
      ∷ changing_answers (feed_of (scale_of ws weights) m q).meter cs
  changing_answers m (reset ∷ cs) = changing_answers (reset_of m) cs

-- the weights are bytes, as those of every lent table are
abbrev pub Bytes : List ChangingCall → Type 0
Bytes [] = Unit {0}
Bytes (begin ∷ cs) = Bytes cs
Bytes (feed weights q ∷ cs) = ((i : ℕ) → get_or weights i 0 ≤ heaviest_weight) × Bytes cs
Bytes (reset ∷ cs) = Bytes cs

module _ (ws : Script) (m : Meter) (calls : List ChangingCall) where
  abbrev pub shown : Meter
  shown = changing_after ws (begin_of m) calls

  abbrev pub book : Book
  book = book_after ws empty calls

  pub record FollowsBook : Type 0 where
    -- answer by answer
    pub answers : changing_answers ws (begin_of m) calls ≡ book_answers ws empty calls
    pub begun : is_begun shown ≡ has_word (entry_words book.path)
    pub last : shown.last ≡ last_or0 (entry_words book.path)
    -- count by count: every beginning of a list is a list
    pub count : shown.count ≡ weighed_since (graph_of ws) book.path
    pub services : shown.services ≡ min (m.services + book.tally) 4294967295
