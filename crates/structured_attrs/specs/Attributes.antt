-- What structured attributes are: the members of an object.
use Rattle.serde_json.specs.Data.{Members}
use Rattle.serde_json.specs.View.{members_view}
use Rattle.structured_attrs.specs.declared.attributes.Attributes.{Attributes}

-- the members, by the bytes of their keys, each key once
abbrev pub attributes : Attributes → Members
attributes a = members_view a.members.entries
