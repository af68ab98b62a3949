-- `stream::place::Place::write` meets its contract, whether or not the word fitted. Assumes nothing.
use Rattle.stream.proofs.Writes.{written}
use Rattle.stream.proofs.place.Place.write.Goals as goal

pub returns-in-Some : goal.returns-in-Some
returns-in-Some c =
    rw c.in-Some.is at (written c.args.self.now c.clear.new.self c.put.new.bytes c.args.word c.put.result c.clear.ensures c.put.ensures)

pub returns-in-None : goal.returns-in-None
returns-in-None c =
    rw c.refuse.ensures
    (rw c.in-None.is at (written c.args.self.now c.clear.new.self c.put.new.bytes c.args.word c.put.result c.clear.ensures c.put.ensures))
