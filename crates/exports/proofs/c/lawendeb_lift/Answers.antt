-- `exports::c::lawendeb_lift`: what is accepted has few enough words and room for their records.
-- Assumes nothing.
use Rattle.std.proofs.Common.{◌≡◌, ◌∙◌, refl, sym, ap, ℕ, ◌++◌, length, drop, true, false, arith}
use Rattle.std.specs.Prelude.{Result, Ok, Err, ⊤}
use Rattle.std.specs.Result.{is_ok}
use Rattle.common.specs.declared.refusal.Refusal.{Refusal}
use Rattle.exports.specs.Flat.{room_in}
use Rattle.common.proofs.Put.{put_laws}
use Rattle.tables.proofs.Laws.{all_passed}
use Rattle.lifted.specs.Record.{records_numbers}
use Rattle.lifted.proofs.Counted.{length_records}
use Rattle.exports.proofs.RecordWise.{by_answer, none}
use Rattle.exports.proofs.c.lawendeb_lift.Goals as goal
use Rattle.exports.proofs.c.lawendeb_lift.Goals.{then-is_ok, else-is_ok}

accepted : (a : Result ⊤ Refusal) → is_ok a ≡ true → (u : ⊤) × (a ≡ Ok u)
accepted (Ok u) e = (u, refl)
accepted (Err refusal) e = absurd (cc)

refused : (a : Result ⊤ Refusal) → is_ok a ≡ false → (refusal : Refusal) × (a ≡ Err refusal)
refused (Ok u) e = absurd (cc)
refused (Err refusal) e = (refusal, refl)

pub put_records-requires-clause-few : goal.put_records-requires-clause-few
put_records-requires-clause-few c =
    let a = c.args in
    let p = accepted c.check-answer.result (sym c.if-is_ok.ensures.value) in
    λ some. (all_passed (length a.words.now) a.tags.now a.payloads.now a.names.now (length a.bytes.now)
    (room_in a.numbers.now) p.0 (sym c.check-answer.ensures ∙ p.1)).0

pub put_records-requires-clause-room : goal.put_records-requires-clause-room
put_records-requires-clause-room c =
    let a = c.args in
    let p = accepted c.check-answer.result (sym c.if-is_ok.ensures.value) in
    let w = all_passed (length a.words.now) a.tags.now a.payloads.now a.names.now (length a.bytes.now)
    (room_in a.numbers.now) p.0 (sym c.check-answer.ensures ∙ p.1) in
    omega (arith, w.1)

pub returns-clause-numbers_after : goal.returns-clause-numbers_after
returns-clause-numbers_after c =
    let a = c.args in
    let words = a.words.now in
    let bytes = length a.bytes.now in
    let numbers = a.numbers.now in
    let by = by_answer words a.tags.now a.payloads.now a.names.now bytes numbers in
    elim c.if-is_ok.branch [
      | then-is_ok w ↦
          let p = accepted c.check-answer.result (sym w.if-is_ok.ensures.value) in
          let records = records_numbers words a.tags.now a.payloads.now a.names.now (length words) in
          w.numbers-is ∙ w.put_records.ensures ∙ put_laws.start numbers records
          ∙ ap (λ (k : ℕ). records ++ drop k numbers) (length_records words a.tags.now a.payloads.now a.names.now (length words))
          ∙ sym (by (Ok p.0) (sym c.check-answer.ensures ∙ p.1))
      | else-is_ok w ↦
          let p = refused c.check-answer.result (sym w.if-is_ok.ensures.value) in
          w.numbers-is ∙ none words a.tags.now a.payloads.now a.names.now bytes numbers
          ∙ sym (by (Err p.0) (sym c.check-answer.ensures ∙ p.1))
    ]
