-- `office::compose::write_text` meets its contract. Each part has as many records as there is room for. Assumes nothing.
use Rattle.std.proofs.Common.{suc}
use Rattle.rules.specs.Numbers.Capacity.{max_tasks, max_uses}
use Rattle.office.proofs.Composing.{tasks_small, uses_small, kept_few, text_written}
use Rattle.office.proofs.compose.write_text.Goals as goal

pub write_records-requires-clause-small : goal.write_records-requires-clause-small
write_records-requires-clause-small c = tasks_small c.args.text.now _ (suc max_tasks) c.kept.ensures

pub write_records-requires-clause-small_2 : goal.write_records-requires-clause-small_2
write_records-requires-clause-small_2 c = uses_small c.args.text.now _ (suc max_uses) c.kept-3.ensures

pub write_records-requires-clause-tasks_len_bound : goal.write_records-requires-clause-tasks_len_bound
write_records-requires-clause-tasks_len_bound c = (kept_few c.args.text.now _ 0 (suc max_tasks) c.kept.ensures, kept_few c.args.text.now _ 2 (suc max_uses) c.kept-3.ensures)

pub returns : goal.returns
returns c = text_written c.args.text.now _ _ _ _ _ _ c.write_records.ensures c.kept.ensures c.kept-2.ensures c.kept-3.ensures c.kept-4.ensures
