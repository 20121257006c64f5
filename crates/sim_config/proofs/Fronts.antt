-- What has been read of a list, before the reading of the rest.
use Rattle.std.proofs.Common.{List, ◌++◌, Result, Ok, Err}
use Rattle.sim_config.specs.declared.fault.ConfigFault.{ConfigFault}

abbrev pub with_front : {A : Type 0} → List A → Result (List A) ConfigFault → Result (List A) ConfigFault
with_front front (Ok xs) = Ok (front ++ xs)
with_front front (Err e) = Err e
