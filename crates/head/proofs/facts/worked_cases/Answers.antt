-- worked_cases
use Rattle.head.proofs.facts.worked_cases.Goals as goal
use Rattle.head.proofs.Worked.{worked_cases, sample_runs}
use Rattle.head.proofs.WiredWorked.{wired_cases}

pub returns : goal.returns
returns c = record { cases = worked_cases; runs = sample_runs; wired = wired_cases }
