-- `device::table::load_table` meets its contract. The plan check sees the same in the numbers that are read as in all of them.
use Rattle.std.proofs.Common.{◌≡◌, ◌∙◌, ◌+◌, ◌≤◌, ap, sym, length, take, min, arith}
use lib.Seq.{get_or-take, length-take-le}
use lib.ListN.{length-map, length-set}
use Rattle.rules.specs.Numbers.Capacity.{max_tasks}
use Rattle.rules.specs.Books.Load.{load_of}
use Rattle.device.specs.Table.{word_of, numbers_of}
use Rattle.device.proofs.Kept.{no_record, read_more, front_loads}
use Rattle.device.proofs.table.load_table.Goals as goal

pub loop-i-preserved : goal.loop-i-preserved
loop-i-preserved c =
    let tasks = c.args.tasks.now in
    let low : c.min.result ≤ length tasks = omega (arith, c.min.ensures) in
    let seen : length (take c.min.result tasks) ≡ c.min.result = length-take-le c.min.result tasks low in (
      length-set c.loop-i.numbers c.loop-i.i c.number.result ∙ c.loop-i.invariant.0,
      read_more tasks c.loop-i.numbers c.loop-i.i c.number.result (omega (arith, c.loop-i.invariant.0, seen, c.min.ensures)) (omega (arith, seen))
          (c.number.ensures ∙ ap word_of (get_or-take c.min.result tasks c.loop-i.i no_record (omega (arith, seen)))) c.loop-i.invariant.1,
    )

pub returns : goal.returns
returns c =
    let tasks = c.args.tasks.now in
    let low : c.min.result ≤ length tasks = omega (arith, c.min.ensures) in
    let seen : length (take c.min.result tasks) ≡ c.min.result = length-take-le c.min.result tasks low in
    let end : length (take c.min.result tasks) ≡ min (length (numbers_of tasks)) (max_tasks + 1) = omega (arith, seen, c.min.ensures, length-map tasks word_of) in
    let last : c.loop-i.i ≡ length (take c.min.result tasks) = omega arith in
    c.load.ensures
    ∙ ap (λ ws. load_of ws c.args.locks.now c.args.uses.now)
    (ap (λ k. take k c.loop-i.numbers) (sym last) ∙ c.loop-i.invariant.1 ∙ ap (λ k. take k (numbers_of tasks)) (last ∙ end))
    ∙ front_loads (numbers_of tasks) c.args.locks.now c.args.uses.now
