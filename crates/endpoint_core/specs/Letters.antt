-- Where a consumer may have its dead letters moved.
use Rattle.std.specs.Prelude.{◌&&◌, Bool, true}
use Rattle.std.specs.Str.{bytes_eq}
use Rattle.position_core.specs.declared.topic_name.TopicName.{TopicName}
use Rattle.endpoint_core.specs.declared.letters.Letters.{Letters}
use Rattle.endpoint_core.specs.declared.letters.Letters.TheVariants.{Anywhere, Own}

-- topics of one tenant and namespace
abbrev pub same_namespace : TopicName → TopicName → Bool
same_namespace a b = bytes_eq a.tenant b.tenant && bytes_eq a.namespace b.namespace

-- a consumer of this topic may have its dead letters moved to the other one
abbrev pub keeps_letters : Letters → TopicName → TopicName → Bool
keeps_letters Anywhere this dead = true
keeps_letters Own this dead = same_namespace this dead
