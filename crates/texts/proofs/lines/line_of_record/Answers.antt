-- `texts::lines::line_of_record` meets its contract. Each turn reads one line. Assumes nothing.
use mathlib.Core.Path.{◌≡◌, ◌∙◌}
use native.Mathlib.Omega.{arith}
use lib.Dec.{eqb}
use lib.ListN.{length, length-append}
use Rattle.std.proofs.Common.{rules, tests}
use Rattle.std.proofs.lemmas.Iterator.Consumers.{YieldsList-at, YieldsList-from_enumerate, YieldsList-turn, YieldsList-end}
use Rattle.std.proofs.lemmas.Iterator.Splits.{YieldsList-from_slice_split}
use Rattle.std.proofs.lemmas.List.FromFn.{length-enumerate_from}
use Rattle.texts.specs.Cut.{newline}
use Rattle.texts.proofs.Split.{parts, turned, record_parts, record_passed, record_found, record_ends}
use Rattle.texts.proofs.lines.line_of_record.Goals as goal

pub returns-then-left-count : goal.returns-then-left-count
returns-then-left-count c =
    let t = turned (parts c.args.text.now) (length c.loop-i.yielded) c.in-Some.i c.in-Some.bytes.now
    (YieldsList-turn (YieldsList-from_enumerate {s = c.into_iter-i-iterator.result} (YieldsList-at (cc)
    (YieldsList-from_slice_split {s = c.split.result} _ (λ b. eqb b newline) c.args.text.now c.split.ensures.rest c.split.ensures.done c.split.ensures.closure (λ x b q k. search (rules, tests)))) (cc))
    c.loop-i.yielded c.loop-i.i-iterator c.loop-i.yielded_by c.next.result c.next.new.self (c.in-Some.i, c.in-Some.bytes) c.in-Some.is c.next.ensures.steps) in
    rw t.1 (record_found (parts c.args.text.now) (length c.loop-i.yielded) c.in-Some.bytes.now t.0 t.2 c.args.part c.args.k c.loop-i.left (length c.loop-i.yielded) c.count_in-count.result c.loop-i.invariant (cc) (omega arith)
    ∙ record_parts c.args.part c.args.k 0 c.args.text.now)

pub loop-i-preserved : goal.loop-i-preserved
loop-i-preserved c =
    let t = turned (parts c.args.text.now) (length c.loop-i.yielded) c.in-Some.i c.in-Some.bytes.now
    (YieldsList-turn (YieldsList-from_enumerate {s = c.into_iter-i-iterator.result} (YieldsList-at (cc)
    (YieldsList-from_slice_split {s = c.split.result} _ (λ b. eqb b newline) c.args.text.now c.split.ensures.rest c.split.ensures.done c.split.ensures.closure (λ x b q k. search (rules, tests)))) (cc))
    c.loop-i.yielded c.loop-i.i-iterator c.loop-i.yielded_by c.next.result c.next.new.self (c.in-Some.i, c.in-Some.bytes) c.in-Some.is c.next.ensures.steps) in
    rw (length-append c.loop-i.yielded)
    (record_passed (parts c.args.text.now) (length c.loop-i.yielded) c.in-Some.bytes.now t.0 t.2 c.args.part c.args.k c.loop-i.left (length c.loop-i.yielded) _ c.loop-i.invariant (cc) (omega arith))

pub returns : goal.returns
returns c =
    let e : length c.loop-i.yielded ≡ length (parts c.args.text.now) =
    (YieldsList-end (YieldsList-from_enumerate {s = c.into_iter-i-iterator.result} (YieldsList-at (cc)
    (YieldsList-from_slice_split {s = c.split.result} _ (λ b. eqb b newline) c.args.text.now c.split.ensures.rest c.split.ensures.done c.split.ensures.closure (λ x b q k. search (rules, tests)))) (cc))
    c.loop-i.yielded c.loop-i.i-iterator c.loop-i.yielded_by c.next.result c.next.new.self c.in-None.is c.next.ensures.steps).1 ∙ length-enumerate_from 0 (parts c.args.text.now) in
    record_ends (parts c.args.text.now) (length c.loop-i.yielded) e c.args.part c.args.k c.loop-i.left (length c.loop-i.yielded) c.loop-i.invariant
    ∙ record_parts c.args.part c.args.k 0 c.args.text.now
