-- Names of the program as contents and kinds.
use Rattle.aml_contents.specs.declared.names.Names.{Names}
use Rattle.aml_contents.specs.Contents.{Contents, ContentKinds}
use Rattle.aml_contents.specs.ContentViews.{contents_of, content_kinds_of}

-- what names hold
abbrev pub contents : Names → Contents
contents names = contents_of names.contents.items

-- of which kinds that is
abbrev pub content_kinds : Names → ContentKinds
content_kinds names = content_kinds_of names.kinds.items
