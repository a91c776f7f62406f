-- What is shown of a part of the bytes by itself, and how a stretch answers.
use Rattle.std.specs.Prelude.{Bool, ◌&&◌, List, [], Option, None, Some, Result, ℕ, ◌+◌, ◌*◌, leb, length, take, drop}
use Rattle.utf8_layout.specs.Sequence.{code_points}
use Rattle.wire.specs.Choice.{choose}
use Rattle.wire.specs.Verdict.{check}
use Rattle.wire.specs.declared.Refusal.{Refusal}
use Rattle.psv0_layout.specs.Answers.{bytes_of, SpanShows}
use Rattle.psv0_layout.specs.Layout.{Seen, no_body}
use Rattle.psv0_layout.specs.Reference.{string_good, string_at, index_good, array_at}
use Rattle.psv0_layout.specs.Shown.{Value, Question, needs, set_if, value}
use Rattle.psv0_layout.specs.declared.Span.{Span}
use Rattle.places_layout.specs.Handed.{stretch_in}
use Rattle.places_layout.specs.Read.{source_of, is_there, value_by}
use Rattle.places_layout.specs.declared.SectionPlaces.{SectionPlaces}

-- a record that has a stage and an edition alone
abbrev pub staged : ℕ → ℕ → SectionPlaces
staged s er =
    record {
      edition = er;
      runtime = 0;
      stage = s;
      resources = 0;
      resource_count = 0;
      resource_size = 0;
      strings = 0;
      string_bytes = 0;
      indices = 0;
      index_count = 0;
      elements = 0;
      element_count = 0;
      element_size = 0;
      masks = 0;
      mask_words = [];
    }

-- of a runtime record r, by the stage and the edition read
unfoldable pub of_runtime : ℕ → ℕ → List ℕ → Question → Value
of_runtime s er r q =
    let v : Seen = record { runtime = r; resources = []; body = no_body } in
    let t = source_of (staged s er) q in
    set_if (leb (needs q) er) (set_if (is_there (staged s er) t) (value_by (staged s er) [] t v (value q v)))

-- n bytes at a place
abbrev pub StretchShows : List ℕ → ℕ → ℕ → Result Span Refusal → Type 0
StretchShows b at n s = SpanShows b (stretch_in b at n).verdict (bytes_of (stretch_in b at n).value) None s

-- the bytes l with the code points c, where a test is true, else 29
abbrev pub TestShows : List ℕ → Bool → List ℕ → Option ℕ → Result Span Refusal → Type 0
TestShows b t l c s = SpanShows b (check t 29 0) (choose t l []) (choose t c None) s

-- the string at a reference into a table of n bytes at a place
abbrev pub StringShows : List ℕ → ℕ → ℕ → ℕ → Result Span Refusal → Type 0
StringShows b at n o s =
    let t = take n (drop at b) in
    TestShows b (leb (at + n) (length b) && string_good t o) (string_at t o) (Some (code_points (string_at t o))) s

-- r numbers from a reference on, in a table of n numbers at a place
abbrev pub ArrayShows : List ℕ → ℕ → ℕ → ℕ → ℕ → Result Span Refusal → Type 0
ArrayShows b at n i r s =
    let x = take (n * 4) (drop at b) in
    TestShows b (leb (at + n * 4) (length b) && index_good x i r) (array_at x i r) None s
