-- Examples hold if what antt computes of all of them is what is said. Assumes nothing.
use mathlib.Core.Path.{◌≡◌}
use mathlib.Core.List.{List, [], ◌∷◌, map}
use Rattle.fields.specs.declared.version.Version.{Version}
use Rattle.touches.specs.Touches.{touches_for}
use Rattle.touches.specs.Examples.{TouchedItem, items_of, Example, at, ExamplesHold}

-- what an example's word touches, and what is said of it
abbrev pub touched : Version → Example → List TouchedItem
touched v (at words p items) = items_of (touches_for v words p)

abbrev pub said : Example → List TouchedItem
said (at words p items) = items

-- each holds if the two lists of all are the same
pub each : (v : Version) (es : List Example) → map (touched v) es ≡ map said es → ExamplesHold v es
each v [] e = tt
each v (at words p items ∷ es) e =
    let h : touched v (at words p items) ≡ items = cc in
    let t : map (touched v) es ≡ map said es = cc in
    (h, each v es t)
