-- Contents of the program as contents.
use Rattle.std.specs.Prelude.{List, map, Option}
use Rattle.std.specs.Option.{option_map}
use Rattle.aml_values.specs.declared.value.Value as program
use Rattle.aml_values.specs.Values.{Value}
use Rattle.aml_values.specs.Views.{view}
use Rattle.aml_kinds.specs.declared.kind.Kind as program_kind
use Rattle.aml_kinds.specs.Kinds.{Kind}
use Rattle.aml_kinds.specs.KindViews.{kind_of}
use Rattle.aml_contents.specs.Contents.{Contents, ContentKinds}

abbrev pub content : Option program.Value → Option Value
content v = option_map view v

abbrev pub content_kind : Option program_kind.Kind → Option Kind
content_kind k = option_map kind_of k

abbrev pub contents_of : List (Option program.Value) → Contents
contents_of vs = map content vs

abbrev pub content_kinds_of : List (Option program_kind.Kind) → ContentKinds
content_kinds_of ks = map content_kind ks
