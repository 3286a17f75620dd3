-- The order of spellings: by the form's bytes, and then by key.
use Rattle.std.specs.Ordering.{ordering_then}
use Rattle.std.specs.declared.cmp.Ordering.{Ordering}
use Rattle.usfm_ref.specs.Keys.{key_cmp}
use Rattle.concordance.specs.Words.{Spelling, form_cmp}

-- spellings go by the bytes of their forms, and then by key
abbrev pub spelling_cmp : Spelling → Spelling → Ordering
spelling_cmp a b = ordering_then (form_cmp a.form b.form) (key_cmp a.key b.key)
