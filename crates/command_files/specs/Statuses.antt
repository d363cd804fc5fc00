-- The numbers that the program ends with.
use Rattle.std.specs.Prelude.{ℕ}
use Rattle.command_files.specs.declared.status.Status.{Status}
use Rattle.command_files.specs.declared.status.Status.TheVariants.{Done, ReadFault, WriteFault, NoCommand, Refused, NotSeated, OutOfMemory, TooMuchInput, NoList, DiskFault}

abbrev pub number_of : Status → ℕ
number_of Done = 0
number_of ReadFault = 1
number_of WriteFault = 2
number_of NoCommand = 3
number_of Refused = 4
number_of NotSeated = 5
number_of OutOfMemory = 6
number_of TooMuchInput = 7
number_of NoList = 8
number_of DiskFault = 9
