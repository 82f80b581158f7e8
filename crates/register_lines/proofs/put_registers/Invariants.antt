-- Register by register: when k are done, the lines of the registers below k stand in the buffer.
use Rattle.register_lines.specs.Registers.{register_lines}
use Rattle.text.specs.Put.{Put}
use Rattle.register_lines.proofs.put_registers.Given as goal

abbrev pub invariant-loop-k : goal.invariant-loop-k
invariant-loop-k l = Put (register_lines l.k l.fn.registers) l.fn.out l.out
