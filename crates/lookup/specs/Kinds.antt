-- What the code's kinds of entries mean in the definitions' table: each another one, so that what is meant says which it is.
use Rattle.machine.specs.Table as table
use Rattle.lookup.specs.declared.kinds.RegisterByte.{RegisterByte}
use Rattle.lookup.specs.declared.kinds.RegisterByte.TheVariants.{NoByte, BothNamed, OnlyB, OnlyA}
use Rattle.lookup.specs.declared.kinds.Which.{Which}
use Rattle.lookup.specs.declared.kinds.Which.TheVariants.{None, Ra, Rb, Rsp}
use Rattle.lookup.specs.declared.kinds.Computes.{Computes}
use Rattle.lookup.specs.declared.kinds.Computes.TheVariants.{Nothing, BOpA, JustA, JustC, BPlusC, BLess8, BPlus8}
use Rattle.lookup.specs.declared.kinds.Accesses.{Accesses}
use Rattle.lookup.specs.declared.kinds.Accesses.TheVariants.{NoAccess, LoadsAtE, LoadsAtA, StoresA, StoresNext}

unfoldable pub byte_meant : RegisterByte → table.RegisterByte
byte_meant NoByte = table.no_byte
byte_meant BothNamed = table.both_named
byte_meant OnlyB = table.only_b
byte_meant OnlyA = table.only_a

unfoldable pub which_meant : Which → table.Which
which_meant None = table.none
which_meant Ra = table.r_a
which_meant Rb = table.r_b
which_meant Rsp = table.rsp

unfoldable pub computes_meant : Computes → table.Computes
computes_meant Nothing = table.nothing
computes_meant BOpA = table.b_op_a
computes_meant JustA = table.just_a
computes_meant JustC = table.just_c
computes_meant BPlusC = table.b_plus_c
computes_meant BLess8 = table.b_less8
computes_meant BPlus8 = table.b_plus8

unfoldable pub accesses_meant : Accesses → table.Accesses
accesses_meant NoAccess = table.no_access
accesses_meant LoadsAtE = table.loads_at_e
accesses_meant LoadsAtA = table.loads_at_a
accesses_meant StoresA = table.stores_a
accesses_meant StoresNext = table.stores_next
