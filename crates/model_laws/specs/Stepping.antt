-- Who steps in a pass, of the actors that have an edge at its time.

-- all of them, or those whose next time it is
pub data Stepping : Type 0 where
  Everyone : Stepping
  Due : Stepping
