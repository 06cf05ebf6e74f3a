use Rattle.frames.proofs.Laws.{reads_back, writes_back}
use Rattle.frames.proofs.read.codec_laws.Goals as goal

pub returns : goal.returns
returns c = record { reads_back = reads_back; writes_back = writes_back }
