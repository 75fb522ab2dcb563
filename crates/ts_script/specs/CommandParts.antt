-- Parsed commands, by the values of their texts. (Own rule.)
use Rattle.ts_script.specs.Commands.{Command, SetSettings, At, SetPrecision, SetEpoch, Write, Live, Retain, BeginRun, StepRun, Reload, AddRule, DropRule, SetCertificate, Query, Explain, Count, CountFault, Unknown}
use Rattle.ts_script.specs.declared.command.Command.{Command as ReadCommand}
use Rattle.ts_script.specs.declared.command.Command.TheVariants as read

abbrev pub command_view : ReadCommand → Command
command_view (read.SetSettings text) = SetSettings text.now
command_view (read.At t) = At t
command_view (read.SetPrecision p) = SetPrecision p
command_view (read.SetEpoch e) = SetEpoch e
command_view (read.Write text) = Write text.now
command_view read.Live = Live
command_view read.Retain = Retain
command_view read.BeginRun = BeginRun
command_view read.StepRun = StepRun
command_view read.Reload = Reload
command_view (read.AddRule text) = AddRule text.now
command_view (read.DropRule name) = DropRule name.now
command_view (read.SetCertificate text) = SetCertificate text.now
command_view (read.Query text) = Query text.now
command_view (read.Explain text) = Explain text.now
command_view (read.Count m f a b) = Count m.now f.now a b
command_view read.CountFault = CountFault
command_view read.Unknown = Unknown
