-- How the program ends where it runs nothing.
use Rattle.uc_tool_io.specs.declared.done.Done.{Done}
use Rattle.uc_tool_io.specs.declared.done.Done.TheVariants.{Refused, NoMemory}
use Rattle.uc_tool_io.specs.declared.refusal.Refusal.{Refusal}
use Rattle.uc_tool_io.specs.declared.refusal.Refusal.TheVariants.{NotText, Memory}

abbrev pub done_of : Refusal → Done
done_of NotText = Refused
done_of Memory = NoMemory
