-- `texts::lines::collect` meets its contract. Each turn reads one line. Assumes nothing.
use mathlib.Core.Path.{◌≡◌, sym, ◌∙◌, ap}
use lib.Dec.{eqb}
use lib.ListN.{length, length-append}
use Rattle.std.proofs.Common.{rules, tests}
use Rattle.std.proofs.lemmas.Iterator.Consumers.{YieldsList-at, YieldsList-turn, YieldsList-end}
use Rattle.std.proofs.lemmas.Iterator.Splits.{YieldsList-from_slice_split}
use Rattle.texts.specs.Cut.{newline}
use Rattle.texts.proofs.Split.{parts, records_parts, collect_next, collect_ends}
use Rattle.page.specs.Page.{typed}
use Rattle.texts.proofs.lines.collect.Goals as goal

pub loop-bytes-preserved : goal.loop-bytes-preserved
loop-bytes-preserved c =
    let t = YieldsList-turn (YieldsList-at {s = c.into_iter-bytes-iterator.result} (cc)
    (YieldsList-from_slice_split {s = c.split-bytes-items.result} _ (λ b. eqb b newline) c.args.text.now c.split-bytes-items.ensures.rest c.split-bytes-items.ensures.done c.split-bytes-items.ensures.closure (λ x b q k. search (rules, tests))))
    c.loop-bytes.yielded c.loop-bytes.bytes-iterator c.loop-bytes.yielded_by c.next.result c.next.new.self c.in-Some.bytes c.in-Some.is c.next.ensures.steps in
    rw (length-append c.loop-bytes.yielded)
    (collect_next (parts c.args.text.now) (length c.loop-bytes.yielded) c.in-Some.bytes.now t.0 t.1 c.args.part _ _ _ c.loop-bytes.invariant
    (rw (sym c.line_of.ensures) c.keep.ensures))

pub returns : goal.returns
returns c =
    let e : length c.loop-bytes.yielded ≡ length (parts c.args.text.now) =
    (YieldsList-end (YieldsList-at {s = c.into_iter-bytes-iterator.result} (cc)
    (YieldsList-from_slice_split {s = c.split-bytes-items.result} _ (λ b. eqb b newline) c.args.text.now c.split-bytes-items.ensures.rest c.split-bytes-items.ensures.done c.split-bytes-items.ensures.closure (λ x b q k. search (rules, tests))))
    c.loop-bytes.yielded c.loop-bytes.bytes-iterator c.loop-bytes.yielded_by c.next.result c.next.new.self c.in-None.is c.next.ensures.steps).1 in
    collect_ends (parts c.args.text.now) (length c.loop-bytes.yielded) e c.args.part _ _ c.loop-bytes.invariant ∙ ap (typed c.args.page.now) (records_parts c.args.part c.args.text.now)
