-- Whose subscription stays.
use Rattle.std.specs.Prelude.{Bool, true, false}
use Rattle.endpoint_core.specs.declared.modes.Mode.{Mode}
use Rattle.endpoint_core.specs.declared.modes.Mode.TheVariants.{Durable, NonDurable}
use Rattle.endpoint_core.specs.declared.routes.Endpoint.{Endpoint}
use Rattle.endpoint_core.specs.declared.routes.Endpoint.TheVariants.{Consumer}

abbrev pub stays_by : Mode → Bool
stays_by Durable = true
stays_by NonDurable = false

-- of all who come, only a consumer may say that its subscription is to go with it
abbrev pub is_durable : Endpoint → Bool
is_durable (Consumer consumer) = stays_by consumer.mode
is_durable other = true
