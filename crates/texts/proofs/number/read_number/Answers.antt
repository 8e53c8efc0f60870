-- `texts::number::read_number` meets its contract. Its tests in turn. Assumes nothing.
use Rattle.std.proofs.Common.{rules}
use Rattle.rules.proofs.Numbers.Choice.{flags}
use Rattle.texts.specs.Number.{number_of}
use Rattle.texts.proofs.number.read_number.Goals as goal

pub returns-then-is_empty : goal.returns-then-is_empty
unfolding number_of
returns-then-is_empty c = search (flags, rules)

pub returns-then-not-all_digits : goal.returns-then-not-all_digits
unfolding number_of
returns-then-not-all_digits c = search (flags, rules)

pub returns-then-v-most : goal.returns-then-v-most
unfolding number_of
returns-then-v-most c = search (flags, rules)

pub returns : goal.returns
unfolding number_of
returns c = search (flags, rules)
