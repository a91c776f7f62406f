-- What crosses the boundary, from what the calls answer.
use Rattle.std.specs.Prelude.{Result, Ok, Err, Option, Some, None, ◌≡◌, Bool, true, false, List, ℕ, ◌+◌, ◌≤◌, eqb, ltb, length, take, drop}
use Rattle.wire.specs.Choice.{choose}
use Rattle.wire.specs.Verdict.{number_of, place_of, verdict_of, Verdict, Accepted, Refused}
use Rattle.wire.specs.declared.Refusal.{Refusal}
use Rattle.container.specs.declared.ContainerOpening.{ContainerOpening}
use Rattle.container.specs.declared.ContainerPlaces.{ContainerPlaces}
use Rattle.dxil_layout.specs.declared.Program.{Program}
use Rattle.dxil_layout.specs.declared.ProgramHeader.{ProgramHeader}
use Rattle.dxil_report_layout.specs.declared.ProgramReport.{ProgramReport}
use Rattle.dxil_report_layout.specs.declared.Stages.{Stages}
use Rattle.dxil_report_layout.specs.declared.Stages.TheVariants.{Equal, Different, Unset as NoStage}
use Rattle.figures_layout.specs.declared.Addition.{Addition}
use Rattle.figures_layout.specs.declared.Figures.{Figures}
use Rattle.figures_layout.specs.declared.Full.{Full}
use Rattle.figures_layout.specs.declared.JoinError.{JoinError}
use Rattle.figures_layout.specs.declared.JoinError.TheVariants.{OtherEdition, Full as NoRoom}
use Rattle.part_table_layout.specs.declared.Part.{Part}
use Rattle.part_table_layout.specs.declared.Table.{Table}
use Rattle.psv0_layout.specs.Answers.{bytes_of, bytes_beside, section_of}
use Rattle.psv0_layout.specs.declared.ElementRecord.{ElementRecord}
use Rattle.psv0_layout.specs.declared.RuntimeInfo.{RuntimeInfo}
use Rattle.psv0_layout.specs.declared.ListLengths.{ListLengths}
use Rattle.psv0_layout.specs.declared.Opening.{Opening}
use Rattle.psv0_layout.specs.declared.ResourceRecord.{ResourceRecord}
use Rattle.psv0_layout.specs.declared.Section.{Section}
use Rattle.psv0_layout.specs.declared.Section.TheVariants.{RuntimeRecord, ResourceRecords, StringTable, IndexTable, ElementRecords, Masks}
use Rattle.psv0_layout.specs.declared.Span.{Span}
use Rattle.psv0_layout.specs.declared.View.{View}
use Rattle.psv0_layout.specs.declared.View.TheVariants.{StageUnion, ElementString, ElementArray, EntryName, Mask}
use Rattle.psv0_layout.specs.Handed.{handed}
use Rattle.replacing_layout.specs.declared.Replacement.{Replacement}
use Rattle.places_layout.specs.Handed.{handed_by}
use Rattle.places_layout.specs.Placed.{no_places}
use Rattle.places_layout.specs.Read.{Answer, refusal}
use Rattle.places_layout.specs.declared.PlacesAnswer.{PlacesAnswer}
use Rattle.places_layout.specs.declared.SectionPlaces.{SectionPlaces}
use Rattle.psv0_layout.specs.Shown.{Value, queried}
use Rattle.container_layout.specs.Container.{container_judged}
use Rattle.root_signature_layout.specs.Root.{number_of as type_number}
use Rattle.root_signature_layout.specs.declared.DescriptorRange.{DescriptorRange}
use Rattle.root_signature_layout.specs.declared.Item.{Item}
use Rattle.root_signature_layout.specs.declared.Item.TheVariants.{Constants, Descriptor, Table as RangeTable, Sampler}
use Rattle.root_signature_layout.specs.declared.RootHeader.{RootHeader}
use Rattle.root_signature_report_layout.specs.declared.RootReport.{RootReport}
use Rattle.settings_layout.specs.declared.RowAlone.{RowAlone}
use Rattle.settings_layout.specs.declared.Row.{Row}
use Rattle.settings_layout.specs.declared.Settings.{Settings}
use Rattle.signature_layout.specs.declared.NameSpan.{NameSpan}
use Rattle.signature_layout.specs.declared.SignatureAnswer.{SignatureAnswer}
use Rattle.signature_report_layout.specs.Reported.{signature_report_of, element_report_of, difference_of}
use Rattle.signature_report_layout.specs.declared.SignaturePart.{SignaturePart}
use Rattle.signature_report_layout.specs.declared.SignaturePart.TheVariants.{Input, Output, Patch}
use Rattle.signature_report_layout.specs.declared.SignatureReport.{SignatureReport}
use Rattle.qollqamir.specs.declared.CSignature.{CSignature}
use Rattle.qollqamir.specs.declared.CSignatureReport.{CSignatureReport}
use Rattle.qollqamir.specs.declared.CSignatureElement.{CSignatureElement}
use Rattle.qollqamir.specs.declared.CDifference.{CDifference}
use Rattle.qollqamir.specs.declared.CItem.{CItem}
use Rattle.qollqamir.specs.declared.CRange.{CRange}
use Rattle.qollqamir.specs.declared.CReplaced.{CReplaced}
use Rattle.qollqamir.specs.declared.CRoot.{CRoot}
use Rattle.qollqamir.specs.declared.CRootReport.{CRootReport}
use Rattle.qollqamir.specs.declared.CAdded.{CAdded}
use Rattle.qollqamir.specs.declared.CJoined.{CJoined}
use Rattle.qollqamir.specs.declared.CSetting.{CSetting}
use Rattle.qollqamir.specs.declared.CSettings.{CSettings}
use Rattle.qollqamir.specs.declared.CSettingsRow.{CSettingsRow}
use Rattle.qollqamir.specs.declared.CSettingsRowAlone.{CSettingsRowAlone}
use Rattle.qollqamir.specs.declared.CVerdict.{CVerdict}
use Rattle.qollqamir.specs.declared.CField.{CField}
use Rattle.qollqamir.specs.declared.CTable.{CTable}
use Rattle.qollqamir.specs.declared.CPart.{CPart}
use Rattle.qollqamir.specs.declared.COpened.{COpened}
use Rattle.qollqamir.specs.declared.COpening.{COpening}
use Rattle.qollqamir.specs.declared.CInfo.{CInfo}
use Rattle.qollqamir.specs.declared.CResource.{CResource}
use Rattle.qollqamir.specs.declared.CElement.{CElement}
use Rattle.qollqamir.specs.declared.CLengths.{CLengths}
use Rattle.qollqamir.specs.declared.CSpan.{CSpan}
use Rattle.qollqamir.specs.declared.CWritten.{CWritten}
use Rattle.qollqamir.specs.declared.CHeader.{CHeader}
use Rattle.qollqamir.specs.declared.CProgram.{CProgram}
use Rattle.qollqamir.specs.declared.CReport.{CReport}

-- document 01's number and place of a verdict; 0 where it accepts
abbrev pub c_verdict : Verdict → CVerdict
c_verdict v = record { number = number_of v; place = place_of v }

-- the same of an answer: beside a value zeros, beside a refusal its number and place, and zeros and unset fields for the value
abbrev pub c_accepted : CVerdict
c_accepted = record { number = 0; place = 0 }

abbrev pub c_refusal : Refusal → CVerdict
c_refusal r = record { number = r.number; place = r.place }

-- an answer without a value: zeros where there is no refusal
unfoldable pub c_judged : Result Unit Refusal → CVerdict
c_judged (Ok x) = record { number = 0; place = 0 }
c_judged (Err r) = c_refusal r

-- 1 and the number where the field is set, 0 and 0 where it is not
abbrev pub c_field : Option ℕ → CField
c_field (Some n) = record { set = 1; value = n }
c_field None = record { set = 0; value = 0 }

-- the pairs of names that were compared, for who asked
abbrev pub pairs_field : Bool → ℕ → Option ℕ
pairs_field true n = Some n
pairs_field false n = None

abbrev pub c_table : Table → CTable
c_table t =
    record {
      verdict = c_judged t.verdict;
      count = t.count;
      pairs = c_field (pairs_field t.counted t.pairs);
      names = t.names;
      offsets = t.offsets;
      sizes = t.sizes;
      occurrences = t.occurrences;
      gaps = t.gaps;
    }

abbrev pub c_part : Result Part Refusal → CPart
c_part (Ok p) = record { verdict = c_accepted; number = p.number; offset = p.offset; size = p.size }
c_part (Err r) = record { verdict = c_refusal r; number = 0; offset = 0; size = 0 }

abbrev pub c_opening : Result ContainerOpening Refusal → COpening
c_opening (Ok o) = record { verdict = c_accepted; parts = o.parts; file_edition = o.file_edition; edition_read = o.edition_read }
c_opening (Err r) = record { verdict = c_refusal r; parts = 0; file_edition = 0; edition_read = 0 }

-- PSV0 data alone have no parts
abbrev pub c_psv_opening : Result Opening Refusal → COpening
c_psv_opening (Ok o) = record { verdict = c_accepted; parts = 0; file_edition = o.file_edition; edition_read = o.edition_read }
c_psv_opening (Err r) = record { verdict = c_refusal r; parts = 0; file_edition = 0; edition_read = 0 }

-- an opening with its places; the edition read is theirs
abbrev pub not_opened : Refusal → COpened
not_opened r = record { verdict = c_refusal r; parts = 0; file_edition = 0; edition_read = 0; places = no_places }

abbrev pub c_opened : Result ContainerPlaces Refusal → COpened
c_opened (Ok o) =
    record {
      verdict = c_accepted;
      parts = o.parts;
      file_edition = o.file_edition;
      edition_read = o.places.edition;
      places = o.places;
    }
c_opened (Err r) = not_opened r

abbrev pub c_psv_opened : Result PlacesAnswer Refusal → COpened
c_psv_opened (Ok o) =
    record {
      verdict = c_accepted;
      parts = 0;
      file_edition = o.file_edition;
      edition_read = o.places.edition;
      places = o.places;
    }
c_psv_opened (Err r) = not_opened r

abbrev pub c_info : Result RuntimeInfo Refusal → CInfo
c_info (Ok x) =
    record {
      verdict = c_accepted;
      minimum_wave_lanes = c_field x.minimum_wave_lanes;
      maximum_wave_lanes = c_field x.maximum_wave_lanes;
      stage = c_field x.stage;
      uses_view_id = c_field x.uses_view_id;
      max_vertex_count = c_field x.max_vertex_count;
      patch_vectors = c_field x.patch_vectors;
      mesh_topology = c_field x.mesh_topology;
      input_elements = c_field x.input_elements;
      output_elements = c_field x.output_elements;
      patch_elements = c_field x.patch_elements;
      input_vectors = c_field x.input_vectors;
      output_vectors_0 = c_field x.output_vectors_0;
      output_vectors_1 = c_field x.output_vectors_1;
      output_vectors_2 = c_field x.output_vectors_2;
      output_vectors_3 = c_field x.output_vectors_3;
      threads_x = c_field x.threads_x;
      threads_y = c_field x.threads_y;
      threads_z = c_field x.threads_z;
      entry_name_offset = c_field x.entry_name_offset;
    }
c_info (Err r) =
    record {
      verdict = c_refusal r;
      minimum_wave_lanes = c_field None;
      maximum_wave_lanes = c_field None;
      stage = c_field None;
      uses_view_id = c_field None;
      max_vertex_count = c_field None;
      patch_vectors = c_field None;
      mesh_topology = c_field None;
      input_elements = c_field None;
      output_elements = c_field None;
      patch_elements = c_field None;
      input_vectors = c_field None;
      output_vectors_0 = c_field None;
      output_vectors_1 = c_field None;
      output_vectors_2 = c_field None;
      output_vectors_3 = c_field None;
      threads_x = c_field None;
      threads_y = c_field None;
      threads_z = c_field None;
      entry_name_offset = c_field None;
    }

abbrev pub c_resource : Result ResourceRecord Refusal → CResource
c_resource (Ok x) =
    record {
      verdict = c_accepted;
      binding_type = c_field x.binding_type;
      space = c_field x.space;
      lower_bound = c_field x.lower_bound;
      upper_bound = c_field x.upper_bound;
      kind = c_field x.kind;
      flags = c_field x.flags;
    }
c_resource (Err r) =
    record {
      verdict = c_refusal r;
      binding_type = c_field None;
      space = c_field None;
      lower_bound = c_field None;
      upper_bound = c_field None;
      kind = c_field None;
      flags = c_field None;
    }

abbrev pub c_element : Result ElementRecord Refusal → CElement
c_element (Ok x) =
    record {
      verdict = c_accepted;
      name_offset = c_field x.name_offset;
      index_reference = c_field x.index_reference;
      rows = c_field x.rows;
      start_row = c_field x.start_row;
      columns = c_field x.columns;
      start_column = c_field x.start_column;
      allocated = c_field x.allocated;
      semantic_kind = c_field x.semantic_kind;
      component_type = c_field x.component_type;
      interpolation = c_field x.interpolation;
      dynamic_mask = c_field x.dynamic_mask;
      stream = c_field x.stream;
      reserved = c_field x.reserved;
    }
c_element (Err r) =
    record {
      verdict = c_refusal r;
      name_offset = c_field None;
      index_reference = c_field None;
      rows = c_field None;
      start_row = c_field None;
      columns = c_field None;
      start_column = c_field None;
      allocated = c_field None;
      semantic_kind = c_field None;
      component_type = c_field None;
      interpolation = c_field None;
      dynamic_mask = c_field None;
      stream = c_field None;
      reserved = c_field None;
    }

abbrev pub c_lengths : Result ListLengths Refusal → CLengths
c_lengths (Ok x) =
    record {
      verdict = c_accepted;
      resources = c_field x.resources;
      strings = c_field x.strings;
      indices = c_field x.indices;
      elements = c_field x.elements;
    }
c_lengths (Err r) =
    record {
      verdict = c_refusal r;
      resources = c_field None;
      strings = c_field None;
      indices = c_field None;
      elements = c_field None;
    }

-- the code points of a string as two numbers: 1 and how many, zeros where there is no string
abbrev pub is_string_of : Option ℕ → ℕ
is_string_of (Some n) = 1
is_string_of None = 0

abbrev pub points_number : Option ℕ → ℕ
points_number (Some n) = n
points_number None = 0

abbrev pub c_span : Result Span Refusal → CSpan
c_span (Ok s) =
    record {
      verdict = c_accepted;
      start = s.start;
      len = s.len;
      is_string = is_string_of s.points;
      points = points_number s.points;
    }
c_span (Err r) = record { verdict = c_refusal r; start = 0; len = 0; is_string = 0; points = 0 }

-- what a writer answers: the length of what it wrote
abbrev pub c_written : Result ℕ Refusal → CWritten
c_written (Ok n) = record { verdict = c_accepted; len = n }
c_written (Err r) = record { verdict = c_refusal r; len = 0 }

abbrev pub c_replaced : Result Replacement Refusal → CReplaced
c_replaced (Ok a) = record { verdict = c_accepted; len = a.len; places = a.places }
c_replaced (Err r) = record { verdict = c_refusal r; len = 0; places = no_places }

abbrev pub c_header : ProgramHeader → CHeader
c_header h =
    record {
      version_major = h.version_major;
      version_minor = h.version_minor;
      stage = h.stage;
      words = h.words;
      bitcode_major = h.bitcode_major;
      bitcode_minor = h.bitcode_minor;
      bitcode_offset = h.bitcode_offset;
      bitcode_size = h.bitcode_size;
    }

abbrev pub no_header : CHeader
no_header =
    record {
      version_major = 0;
      version_minor = 0;
      stage = 0;
      words = 0;
      bitcode_major = 0;
      bitcode_minor = 0;
      bitcode_offset = 0;
      bitcode_size = 0;
    }

abbrev pub c_program : Result Program Refusal → CProgram
c_program (Ok p) = record { verdict = c_accepted; header = c_header p.header; start = p.start; len = p.len }
c_program (Err r) = record { verdict = c_refusal r; header = no_header; start = 0; len = 0 }

-- 0 unset, 1 equal, 2 different
abbrev pub stages_number : Stages → ℕ
stages_number NoStage = 0
stages_number Equal = 1
stages_number Different = 2

abbrev pub c_report : Result ProgramReport Refusal → CReport
c_report (Ok p) =
    record {
      verdict = c_accepted;
      header = c_header p.header;
      start = p.start;
      len = p.len;
      psv0_stage = c_field p.psv0_stage;
      stages = stages_number p.stages;
    }
c_report (Err r) =
    record { verdict = c_refusal r; header = no_header; start = 0; len = 0; psv0_stage = c_field None; stages = 0 }

-- ---- signatures
abbrev pub c_signature : Result ℕ Refusal → CSignature
c_signature (Ok n) = record { verdict = c_accepted; count = n }
c_signature (Err r) = record { verdict = c_refusal r; count = 0 }

abbrev pub c_signature_report : Result SignatureReport Refusal → CSignatureReport
c_signature_report (Ok s) = record { verdict = c_accepted; count = s.count; start = s.start; len = s.len }
c_signature_report (Err r) = record { verdict = c_refusal r; count = 0; start = 0; len = 0 }

-- 1, where the name starts, its length and its code points; zeros where there is none
abbrev pub named_number : Option NameSpan → ℕ
named_number (Some x) = 1
named_number None = 0

abbrev pub name_parts : Option NameSpan → NameSpan
name_parts (Some x) = x
name_parts None = record { start = 0; len = 0; points = 0 }

abbrev pub c_signature_element : Result SignatureAnswer Refusal → CSignatureElement
c_signature_element (Ok a) =
    record {
      verdict = c_accepted;
      stream = a.element.stream;
      name_offset = a.element.name_offset;
      index = a.element.index;
      system_value = a.element.system_value;
      component_type = a.element.component_type;
      register_number = a.element.register_number;
      mask = a.element.mask;
      exclusive_mask = a.element.exclusive_mask;
      precision = a.element.precision;
      named = named_number a.name;
      name_start = (name_parts a.name).start;
      name_len = (name_parts a.name).len;
      name_points = (name_parts a.name).points;
    }
c_signature_element (Err r) =
    record {
      verdict = c_refusal r;
      stream = 0;
      name_offset = 0;
      index = 0;
      system_value = 0;
      component_type = 0;
      register_number = 0;
      mask = 0;
      exclusive_mask = 0;
      precision = 0;
      named = 0;
      name_start = 0;
      name_len = 0;
      name_points = 0;
    }

-- 1 and the number of what was found, zeros where there is nothing
abbrev pub c_difference : Result (Option ℕ) Refusal → CDifference
c_difference (Ok (Some i)) = record { verdict = c_accepted; found = 1; number = i }
c_difference (Ok None) = record { verdict = c_accepted; found = 0; number = 0 }
c_difference (Err r) = record { verdict = c_refusal r; found = 0; number = 0 }

-- ---- root signatures
abbrev pub c_root : Result RootHeader Refusal → CRoot
c_root (Ok h) = record { verdict = c_accepted; version = h.version; parameters = h.parameters; samplers = h.samplers; flags = h.flags }
c_root (Err r) = record { verdict = c_refusal r; version = 0; parameters = 0; samplers = 0; flags = 0 }

abbrev pub c_root_report : Result RootReport Refusal → CRootReport
c_root_report (Ok r) =
    record {
      verdict = c_accepted;
      version = r.header.version;
      parameters = r.header.parameters;
      samplers = r.header.samplers;
      flags = r.header.flags;
      start = r.start;
      len = r.len;
    }
c_root_report (Err r) =
    record { verdict = c_refusal r; version = 0; parameters = 0; samplers = 0; flags = 0; start = 0; len = 0 }

-- a parameter's values, with zeros where a static sampler has its own
abbrev pub parameter_fields : CVerdict → CField → ℕ → ℕ → ℕ → ℕ → ℕ → ℕ → CField → CItem
parameter_fields c t v r s n m o f =
    record {
      verdict = c;
      parameter_type = t;
      visibility = v;
      register_number = r;
      space = s;
      count = n;
      ranges = m;
      ranges_offset = o;
      flags = f;
      filter = 0;
      address_u = 0;
      address_v = 0;
      address_w = 0;
      lod_bias = 0;
      anisotropy = 0;
      comparison = 0;
      border = 0;
      least_lod = 0;
      greatest_lod = 0;
    }

-- the paper's number of the item's case as the type, the values of the case, and zeros; a float crosses as its bits
abbrev pub item_fields : Item → CItem
item_fields (RangeTable v m o) = parameter_fields c_accepted (c_field (type_number (RangeTable v m o))) v 0 0 0 m o (c_field None)
item_fields (Constants v r s n) = parameter_fields c_accepted (c_field (type_number (Constants v r s n))) v r s n 0 0 (c_field None)
item_fields (Descriptor y v r s f) = parameter_fields c_accepted (c_field (type_number (Descriptor y v r s f))) v r s 0 0 0 (c_field f)
item_fields (Sampler a u v w b an co bo l g r s y) =
    record {
      verdict = c_accepted;
      parameter_type = c_field (type_number (Sampler a u v w b an co bo l g r s y));
      visibility = y;
      register_number = r;
      space = s;
      count = 0;
      ranges = 0;
      ranges_offset = 0;
      flags = c_field None;
      filter = a;
      address_u = u;
      address_v = v;
      address_w = w;
      lod_bias = b.bits;
      anisotropy = an;
      comparison = co;
      border = bo;
      least_lod = l.bits;
      greatest_lod = g.bits;
    }

abbrev pub c_item : Result Item Refusal → CItem
c_item (Ok x) = item_fields x
c_item (Err r) = parameter_fields (c_refusal r) (c_field None) 0 0 0 0 0 0 (c_field None)

abbrev pub c_range : Result DescriptorRange Refusal → CRange
c_range (Ok x) =
    record {
      verdict = c_accepted;
      range_type = x.range_type;
      descriptors = x.descriptors;
      base_register = x.base_register;
      space = x.space;
      flags = c_field x.flags;
      offset = x.offset;
    }
c_range (Err r) = record { verdict = c_refusal r; range_type = 0; descriptors = 0; base_register = 0; space = 0; flags = c_field None; offset = 0 }

-- the part that a number names: 0 ISG1, 1 OSG1, 2 PSG1
abbrev pub part_numbered : ℕ → SignaturePart
part_numbered n = choose (eqb n 0) Input (choose (eqb n 1) Output Patch)

-- a number above 2 names none, and is answered as an absent part: what opening gives, o, then 26
abbrev pub no_part : Verdict → Refusal
no_part Accepted = record { number = 26; place = 0 }
no_part (Refused n p) = record { number = n; place = p }

-- the reports on the part that n names, at edition k on b
unfoldable pub report_numbered : ℕ → ℕ → List ℕ → CSignatureReport
report_numbered n k b =
    c_signature_report (choose (ltb n 3) (signature_report_of (part_numbered n) k b) (Err (no_part (container_judged k b))))

unfoldable pub element_numbered : ℕ → ℕ → List ℕ → ℕ → Result SignatureAnswer Refusal
element_numbered n k b i = choose (ltb n 3) (element_report_of (part_numbered n) k b i) (Err (no_part (container_judged k b)))

unfoldable pub difference_numbered : ℕ → ℕ → List ℕ → CDifference
difference_numbered n k b =
    c_difference (choose (ltb n 3) (difference_of (part_numbered n) k b) (Err (no_part (container_judged k b))))

-- a span shows the bytes l of d under the verdict v, with the code points c: it lies inside, and a refusal has zeros. Where l is empty the start
-- is left free
pub record CShows (d : List ℕ) (v : Verdict) (l : List ℕ) (c : Option ℕ) (s : CSpan) : Type 0 where
  pub verdict : s.verdict ≡ c_verdict v
  pub inside : s.start + s.len ≤ length d
  pub bytes : take s.len (drop s.start d) ≡ l
  pub refused : (n p : ℕ) → v ≡ Refused n p → (s.start ≡ 0) × (s.len ≡ 0) × (s.is_string ≡ 0) × (s.points ≡ 0)
  pub string : s.is_string ≡ is_string_of c
  pub points : s.points ≡ points_number c

-- the view that a kind and a number name: 0 the stage union, 1 an element's string, 2 an element's index array, 3 the entry name, 4 a
-- mask; any other kind is a mask that isn't there
abbrev pub view_of : ℕ → ℕ → View
view_of kind n =
    choose (eqb kind 0) StageUnion
    (choose (eqb kind 1) (ElementString n)
    (choose (eqb kind 2) (ElementArray n) (choose (eqb kind 3) EntryName (choose (eqb kind 4) (Mask n) (Mask 11)))))

-- the section that a number names
abbrev pub section_numbered : ℕ → Section
section_numbered s =
    choose (eqb s 0) RuntimeRecord
    (choose (eqb s 1) ResourceRecords
    (choose (eqb s 2) StringTable (choose (eqb s 3) IndexTable (choose (eqb s 4) ElementRecords Masks))))

-- what the section numbered s is answered with, o being what opening gives and x a value that is unset: 26 where s is above 5
unfoldable pub section_verdict : ℕ → Verdict → Value → Verdict
section_verdict s o x = choose (ltb s 6) o (queried o x)

unfoldable pub section_shown : ℕ → Verdict → ℕ → List ℕ → Value → List ℕ
section_shown s o er d x = choose (ltb s 6) (bytes_beside o (handed er d (section_of (section_numbered s)))) (bytes_of x)

-- the same by places: 26 where s is above 5
unfoldable pub placed_section : ℕ → SectionPlaces → List ℕ → Answer
placed_section s p b = choose (ltb s 6) (handed_by p b (section_of (section_numbered s))) (refusal 26)

-- ---- settings files
abbrev pub c_settings : Result Settings Refusal → CSettings
c_settings (Ok a) = record { verdict = c_accepted; rows = a.rows; first = a.first }
c_settings (Err r) = record { verdict = c_refusal r; rows = 0; first = 0 }

abbrev pub c_settings_row : Result Row Refusal → CSettingsRow
c_settings_row (Ok a) = record { verdict = c_accepted; version = a.version; key = a.key; value = a.value }
c_settings_row (Err r) = record { verdict = c_refusal r; version = 0; key = 0; value = 0 }

abbrev pub c_settings_row_alone : Result RowAlone Refusal → CSettingsRowAlone
c_settings_row_alone (Ok a) =
    record { verdict = c_accepted; version = a.row.version; key = a.row.key; value = a.row.value; end = a.end }
c_settings_row_alone (Err r) = record { verdict = c_refusal r; version = 0; key = 0; value = 0; end = 0 }

abbrev pub c_setting : Result (Option ℕ) Refusal → CSetting
c_setting (Ok s) = record { verdict = c_accepted; setting = c_field s }
c_setting (Err r) = record { verdict = c_refusal r; setting = c_field None }

-- ---- the night's figures
-- what adding to f answers: 0 where a container is counted, 1 where the figures are full, which leaves f as it was
unfoldable pub c_added : Figures → Result Addition Full → CAdded
c_added f (Ok a) = record { answer = 0; verdict = c_judged a.opening; figures = a.figures }
c_added f (Err e) = record { answer = 1; verdict = record { number = 0; place = 0 }; figures = f }

-- what joining others to f answers: 0 where two figures are joined, 1 where there is no room, 2 where their editions differ, which leave f as it was
unfoldable pub c_joined : Figures → Result Figures JoinError → CJoined
c_joined f (Ok g) = record { answer = 0; figures = g }
c_joined f (Err NoRoom) = record { answer = 1; figures = f }
c_joined f (Err OtherEdition) = record { answer = 2; figures = f }
