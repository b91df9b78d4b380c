use Rattle.command.proofs.Commands.{count_most, code_beyond, code_fault_law, code_sent}
use borrow.Author.Rules.{rules}
use Rattle.command.proofs.read.code_at.Goals as goal

pub overflow_mul-count : goal.overflow_mul-count
overflow_mul-count c =
    let a = c.args in
    let most = count_most a.f a.s.now a.at c.read_code.ensures c.in-Pairs.is in
    search rules

pub returns-then-count-f : goal.returns-then-count-f
returns-then-count-f c = code_beyond _ _ _ c.read_code.ensures c.in-Pairs.is c.if-count-f.true

pub returns-in-Fault : goal.returns-in-Fault
returns-in-Fault c = code_fault_law _ _ _ c.read_code.ensures c.in-Fault.is

pub returns-else-count-f : goal.returns-else-count-f
returns-else-count-f c = code_sent _ _ _ c.read_code.ensures c.in-Pairs.is c.if-count-f.false
