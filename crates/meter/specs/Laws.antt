-- What callers go by. proofs/Laws.antt has the one value of `Laws`. Each law stands twice: over any sound
-- script, as request C-24 has it argued ("over any step relation in which a step that does not serve goes
-- forward"), and for every list of words of either version, where nothing of a script is left to suppose:
-- "longest run, meter and C-22's questions take either version, and demand 3 holds by its steps".
-- Assumes nothing.
use Rattle.std.specs.Prelude.{◌≡◌, cond, List, [], ◌∷◌, ◌++◌, ℕ, ◌+◌, ◌≤◌, ◌<◌, length}
use Rattle.common.specs.Limits.{most_words}
use Rattle.fields.specs.declared.version.Version.{Version}
use Rattle.graph.specs.Graph.{Graph}
use Rattle.runs.specs.Script.{Script, Sound, script_of}
use Rattle.runs.specs.Weights.{Weighs}
use Rattle.meter.specs.declared.step.Meter.{Meter}
use Rattle.meter.specs.Feed.{Scale, scale_of}
use Rattle.meter.specs.Model.{Call, last_from, weight_since}
use Rattle.meter.specs.Highest.{HighestAfter, Begins, Resets}
use Rattle.meter.specs.Demand3.{Demand3}
use Rattle.meter.specs.Earlier.{EarlierFeed}
use Rattle.meter.specs.Changing as changing
use Rattle.meter.specs.Order.{Order}

pub record Laws : Type 0 where
  -- demand 3, whole: "For one function of at most 32,768 words", and "weights that 18 accepts"
  pub demand3 : (ws : Script) → Sound ws → (weights : List ℕ)
      → Weighs weights → ws.size ≤ most_words → Demand3 ws weights
  pub demand3_of : (version : Version) (ws weights : List ℕ)
      → Weighs weights → length ws ≤ most_words → Demand3 (script_of version ws) weights
  -- request C-17: "With all weights 1 every earlier answer returns, number 11 aside"
  pub earlier_feed : (ws : Script) → Sound ws → (m : Meter) (q : ℕ) → EarlierFeed ws m q
  pub earlier_feed_of : (version : Version) (ws : List ℕ) (m : Meter) (q : ℕ)
      → EarlierFeed (script_of version ws) m q
  -- request C-19, of the highest: by any scale, of any number of words and whatever the weights are
  pub highest : (s : Scale) (m : Meter) (calls : List Call) → HighestAfter s m calls
  pub highest_of : (version : Version) (ws weights : List ℕ) (m : Meter) (calls : List Call)
      → HighestAfter (scale_of (script_of version ws) weights) m calls
  -- "Begin takes any meter", and so does a reset, which "changes nothing else"
  pub begins : (m : Meter) → Begins m
  pub resets : (m : Meter) → Resets m
  -- "Checks run in this order": 1, 18, 11 and 10, each exactly; and what an accepted feed makes of the meter
  pub order : (s : Scale) (m : Meter) (q : ℕ) → Order s m q
  -- a meter fed by changing weights: "nothing is lost or wraps". A meter's services are 32
  -- bits, and weights are bytes
  pub follows_book :
      (ws : Script) → Sound ws → ws.size ≤ most_words → (m : Meter) → m.services < 4294967296
      → (calls : List changing.ChangingCall) → changing.Bytes calls → changing.FollowsBook ws m calls
  pub follows_book_of :
      (version : Version) (ws : List ℕ) → length ws ≤ most_words → (m : Meter) → m.services < 4294967296
      → (calls : List changing.ChangingCall)
      → changing.Bytes calls → changing.FollowsBook (script_of version ws) m calls
  -- of a course that goes on by one word: its last word, and the weight since the last service, which a
  -- serving step makes that word's alone
  pub last_more : (p : ℕ) (ps : List ℕ) (q : ℕ) → last_from p (ps ++ (q ∷ [])) ≡ q
  pub weight_more :
      (g : Graph) (w : ℕ → ℕ) (p : ℕ) (ps : List ℕ) (q : ℕ)
      → weight_since g w (p ∷ (ps ++ (q ∷ [])))
      ≡ cond (g.serves (last_from p ps) q) (w q) (weight_since g w (p ∷ ps) + w q)
