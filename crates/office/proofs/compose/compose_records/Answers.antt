-- `office::compose::compose_records` meets its contract. By what the writer answers. Assumes nothing.
use Rattle.std.proofs.Common.{sym, ◌∙◌, ap}
use Rattle.page.specs.Page.{typed}
use Rattle.office.proofs.Composing.{records_written, records_refused}
use Rattle.office.proofs.compose.compose_records.Goals as goal

pub returns-in-Ok : goal.returns-in-Ok
unfolding typed
returns-in-Ok c =
    let k = sym (records_written c.args.text.now c.args.out.now _ _ c.in-Ok.ensures) in
    record { value = ap (λ x. x.length) k; out_after = ap (λ x. x.bytes) k; page_after = ap (λ x. typed c.args.page.now x.said) k }

pub returns-in-Err : goal.returns-in-Err
returns-in-Err c =
    let k = sym (records_refused c.args.text.now c.args.out.now _ _ c.in-Err.ensures) in
    record {
      value = ap (λ x. x.length) k;
      out_after = ap (λ x. x.bytes) k;
      page_after = c.put_refused_by.ensures ∙ ap (λ x. typed c.args.page.now x.said) k;
    }
