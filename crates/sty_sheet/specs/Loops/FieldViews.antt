-- What a contract sees of a field.
use Rattle.sty_sheet.specs.Fields as fields
use Rattle.sty_sheet.specs.declared.field.Field.{Field}
use Rattle.sty_sheet.specs.declared.field.Field.TheVariants as field

-- a field with the bytes of its value
abbrev pub field_view : Field → fields.Field
field_view field.Passed = fields.passed
field_view (field.Marker value) = fields.marker value.now
field_view (field.OccursUnder value) = fields.occurs_under value.now
field_view (field.Endmarker value) = fields.endmarker value.now
field_view (field.Name value) = fields.name value.now
field_view (field.StyleType value) = fields.style_type value.now
field_view (field.TextType value) = fields.text_type value.now
