-- `orbeshuri::text` meets its contract. The replay left what the definition says, and the buffer has room for it. Assumes nothing.
use Rattle.std.proofs.Common.{rules}
use Rattle.orbeshuri.proofs.Written.{few_replayed}
use Rattle.orbeshuri.proofs.Fits.{whole_length, whole_front, whole_bytes, whole_counts}
use Rattle.orbeshuri.proofs.text.Goals as goal

pub report_state-requires : goal.report_state-requires
report_state-requires c = search (few_replayed, rules)

pub returns : goal.returns
returns c = record { value = search (whole_length, rules); out_after = search (whole_front, rules); out_after_2 = search (whole_bytes, rules); prefix_len = search (whole_counts, rules) }
