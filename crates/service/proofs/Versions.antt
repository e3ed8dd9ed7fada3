-- The three questions of words of either version, since its steps are sound. Assumes nothing.
use mathlib.Core.List.{List}
use Prim.Native.Nat.{ℕ}
use Rattle.fields.specs.declared.version.Version.{Version}
use Rattle.runs.specs.Script.{script_of}
use Rattle.runs.proofs.Laws.{laws}
use Rattle.service.specs.Versions.{Questions}
use Rattle.service.proofs.NearestService.{nearest_service}
use Rattle.service.proofs.ListedWords.{list-within}
use Rattle.service.proofs.Crossings.{crossing_count}

pub questions : (version : Version) (ws : List ℕ) → Questions version ws
questions version ws =
    record {
      nearest-of = nearest_service (script_of version ws) (laws.sound version ws);
      list_of = list-within (script_of version ws) (laws.sound version ws);
      crossings_of = crossing_count (script_of version ws) (laws.sound version ws);
    }
