-- Demand 3, whole: what a run's answer says of every course, what a meter shows after any list of calls, and,
-- of both together, what owners read first: a meter never shows more than L. proofs/Demand3.antt proves it
-- for any sound script of at most 32,768 words and any weights that number 18 accepts, and `Laws` says it of
-- the words of both versions.
-- Assumes nothing.
use Rattle.std.specs.Prelude.{◌≡◌, List, ℕ, ◌≤◌, ◌<◌}
use Rattle.common.specs.Numbers.{«ACCEPTED»}
use Rattle.runs.specs.Script.{Script}
use Rattle.runs.specs.Demand.{Demand}
use Rattle.runs.specs.Run.{run_of, number_of, longest_of}
use Rattle.meter.specs.declared.step.Meter.{Meter}
use Rattle.meter.specs.Feed.{scale_of}
use Rattle.meter.specs.Model.{Call}
use Rattle.meter.specs.Calls.{FollowsModel}
use Rattle.meter.specs.Highest.{HighestAfter}
use Rattle.meter.specs.Bound.{Bound, Worst}

-- "For one function of at most 32,768 words, .. and control that starts at word 0 and takes any step of
-- document 01's table (RULES 2) at each word:", by request C-24 any step of its version, "and demand 3 holds
-- by its steps". Request C-17: "demand 3 loses that ground and supposes weights that 18 accepts, and a meter
-- compared with a run or with the book is lent the same weights at each feed"
pub record Demand3 (ws : Script) (weights : List ℕ) : Type 0 where
  -- ".. result slices at least as long ..: it is refused exactly if it has no words, some course meets a
  -- bad word .. If accepted, no course passes more than [weight] L without a service between them, and some
  -- course passes exactly L." `Demand` says it, and which number and place a refusal has
  pub run : (marks lengths : ℕ)
      → ws.size ≤ marks → ws.size ≤ lengths → Demand ws weights (run_of ws weights marks lengths)
  -- "Accepted or not, take a meter just begun, whatever services [and highest] it holds: for every list of
  -- begins and feeds [and resets] on it over the same words, whatever word each feed names, refused feeds
  -- included, a feed is accepted exactly if document 01's feeding book (RULES 4) writes its word down, and
  -- after the list the meter shows the [weight of the] words since the last service on the book's course, and
  -- the services held at the start plus all those passed by the book, up to its ceiling." (A meter's services
  -- are 32 bits.) Request C-19:
  -- "Demand 3's lists may hold resets, which its book passes over."
  pub meter : (m : Meter) → m.services < 4294967296 → (calls : List Call)
      → FollowsModel (scale_of ws weights) m calls
  -- both together, what owners read first: if accepted, a meter just begun, fed a course and lent the run's
  -- weights, never shows a count above L, and on some course it shows L
  pub bound : (marks lengths : ℕ) → number_of (run_of ws weights marks lengths) ≡ «ACCEPTED» → (m : Meter)
      → m.services < 4294967296
      → Bound (scale_of ws weights) m (longest_of (run_of ws weights marks lengths))
  -- request C-19: "On an accepted function, a meter begun, then reset, then fed a course shows as highest the
  -- largest count it showed, never above L."
  pub worst : (marks lengths : ℕ) → number_of (run_of ws weights marks lengths) ≡ «ACCEPTED» → (m : Meter)
      → m.services < 4294967296
      → Worst (scale_of ws weights) m (longest_of (run_of ws weights marks lengths))
  -- and what the highest is after any list of calls, on any meter
  pub highest : (m : Meter) (calls : List Call) → HighestAfter (scale_of ws weights) m calls
