use Rattle.ts_script.proofs.count.count.Goals as goal

pub returns : goal.returns
returns c = λ opening h stands. (c.count-counted.result, c.count-counted.ensures opening h stands, c.count_reply.ensures)
