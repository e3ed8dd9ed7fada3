-- The laws of settled entries for other crates, each from its own file. Assumes nothing.
use mathlib.Core.Path.{◌≡◌, sym}
use mathlib.Core.List.{List}
use Prim.Native.Nat.{ℕ}
use lib.ListN.{length}
use Rattle.runs.specs.EntryLaws.{EntryLaws}
use Rattle.fields.specs.declared.version.Version.{Version}
use Rattle.runs.specs.Script.{script_of}
use Rattle.runs.specs.Run.{lowest_invalid}
use Rattle.sweep.specs.Entries.{entries, entry_steps, lowest_by}
use Rattle.runs.specs.Outcome.{Searched}
use Rattle.sweep.proofs.Laws as sweep
use Rattle.runs.proofs.Outcome.{outcome_kept, outcome_words}
use Rattle.runs.proofs.Searched.{fill_asks}

lowest_is : (version : Version) (words m l : List ℕ) → Searched (script_of version words) m l
    → lowest_by (length (entries l)) (entry_steps (entries l)) ≡ lowest_invalid (script_of version words)
unfolding lowest_invalid
lowest_is version words m l s =
    (sweep.laws).carries.lowest-invalid (length words) (script_of version words).steps (entries l) s.settled

pub entry_laws : EntryLaws
entry_laws =
    record {
      asks = λ version ws m l s. fill_asks version ws s;
      graph_is = λ version ws m l s. (sweep.laws).carries.graph _ _ (entries l) s.settled;
      lowest_is = lowest_is;
      outcome =
          λ ws weights m l few a b weighed some m' l' d.
          let o = outcome_words ws weights m l few a b weighed some d in
          (sym o.0, o.1.0, o.1.1);
      refused = λ ws weights m l e r u. (outcome_kept ws weights m l e r u).1;
    }
