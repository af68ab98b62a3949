use Rattle.stream.proofs.Gathered.{writes_input}
use Rattle.loans.proofs.flat_words.write_if.Goals as goal

pub returns-then-wanted : goal.returns-then-wanted
returns-then-wanted c = writes_input _ _ _ c.write.ensures
