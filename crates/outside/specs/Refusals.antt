-- How the refusal of a start is passed on by `fetch`.
use Rattle.outside.specs.declared.faults.StartFault.{StartFault}
use Rattle.outside.specs.declared.faults.StartFault.TheVariants.{Failed, NoMemory}
use Rattle.outside.specs.declared.faults.FetchError.{FetchError}
use Rattle.outside.specs.declared.faults.FetchError.TheVariants.{Failed as FetchFailed, NoMemory as FetchNoMemory}

abbrev pub fetch_error_of : StartFault → FetchError
fetch_error_of Failed = FetchFailed
fetch_error_of NoMemory = FetchNoMemory
