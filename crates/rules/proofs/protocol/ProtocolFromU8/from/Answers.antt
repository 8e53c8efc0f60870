-- `rules::protocol::ProtocolFromU8::from` meets its contract. The test is the definition's. Assumes nothing.
use Rattle.rules.proofs.Numbers.Choice.{tests}
use Rattle.rules.specs.Schedulers.Protocol.{protocol_named}
use Rattle.rules.proofs.protocol.ProtocolFromU8.from.Goals as goal

pub returns-then-number-eq1 : goal.returns-then-number-eq1
unfolding protocol_named
returns-then-number-eq1 c = search tests

pub returns-else-number-eq1 : goal.returns-else-number-eq1
unfolding protocol_named
returns-else-number-eq1 c = search tests
