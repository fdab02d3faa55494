use Rattle.std.proofs.Common.{rules}
use Rattle.records.specs.Bytes.{rec_bytes}
use Rattle.records.proofs.codec.row_bytes.Goals as goal

pub returns : goal.returns
unfolding rec_bytes
returns c = search rules
