-- How a line ends that stops before its command.
use Rattle.halo_words.specs.declared.values.Stop.{Stop}
use Rattle.halo_words.specs.declared.values.Stop.TheVariants as stop
use Rattle.endings.specs.declared.endings.Ending.{Ending}
use Rattle.endings.specs.declared.endings.Ending.TheVariants.{Usage, Memory}

-- by what stopped it
abbrev pub stop_ending : Stop → Ending
stop_ending (stop.Usage place) = Usage place
stop_ending stop.Memory = Memory
