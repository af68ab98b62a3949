use Rattle.stream.proofs.Gathered.{writes_input}
use Rattle.loans.proofs.states.write_state.Goals as goal

pub returns : goal.returns
returns c = writes_input _ _ _ c.write_words.ensures
