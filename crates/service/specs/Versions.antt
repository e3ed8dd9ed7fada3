-- The three questions of words of either version: "Longest run, meter and nearest service are argued over
-- any step relation .., and both versions supply theirs to that argument" (request C-24).
-- proofs/Versions.antt proves `Questions`.
-- Assumes nothing.
use Rattle.std.specs.Prelude.{List, ℕ}
use Rattle.fields.specs.declared.version.Version.{Version}
use Rattle.runs.specs.Script.{script_of}
use Rattle.service.specs.Nearest.{NearestService}
use Rattle.service.specs.ListedWords.{ListWithin}
use Rattle.service.specs.Crossings.{CrossingCount}

pub record Questions (version : Version) (ws : List ℕ) : Type 0 where
  pub nearest-of : (w marks lengths : ℕ) → NearestService (script_of version ws) w marks lengths
  pub list_of : (d : ℕ) (marks lengths list : List ℕ) → ListWithin (script_of version ws) d marks lengths list
  pub crossings_of : (w marks lengths : ℕ) → CrossingCount (script_of version ws) w marks lengths
