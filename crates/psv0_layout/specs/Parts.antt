-- What is shown of a record by itself, and a stretch of accepted data.
use Rattle.std.specs.Prelude.{List, [], ◌∷◌, Option, Result, Ok, Err, ℕ, leb, ltb, length, get_or, take}
use Rattle.wire.specs.declared.Refusal.{Refusal}
use Rattle.psv0_layout.specs.Answers.{field_of}
use Rattle.psv0_layout.specs.Layout.{resource_width}
use Rattle.psv0_layout.specs.Shown.{number, resource_field, needs, set_if, of_resource, element_fields}
use Rattle.psv0_layout.specs.declared.Span.{Span}

-- field f of a resource record r
unfoldable pub resource_shown : ℕ → List ℕ → ℕ → Option ℕ
resource_shown er r f =
    let e = needs (resource_field 0 f) in
    field_of (set_if (leb e er) (of_resource (take (resource_width e (length r)) r ∷ []) 0 f))

-- field f of an element record r
unfoldable pub element_shown : List ℕ → ℕ → Option ℕ
element_shown r f = field_of (set_if (ltb f 13) (number (get_or (element_fields r) f 0)))

-- a stretch of accepted data, with code points where it is a string
abbrev pub accepted_span : ℕ → ℕ → Option ℕ → Result Span Refusal
accepted_span start len points = Ok (record { start = start; points = points; len = len })

-- the refusal with a number and a place, whatever would have been answered
abbrev pub refused_with : {A : Type 0} → ℕ → ℕ → Result A Refusal
refused_with n p = Err (record { number = n; place = p })
