use Rattle.std.proofs.Common.{◌∙◌, ◌++◌, List, ℕ, ap, map}
use Rattle.ix_base.specs.declared.content.Footnote.{Footnote}
use Rattle.ix_base.specs.declared.content.NoteLink.{NoteLink}
use Rattle.ix_base.specs.declared.content.RoleRef.{RoleRef}
use Rattle.instance_lines.specs.Lists.{is_within}
use Rattle.instance_lines.specs.Tables.{values_of}
use Rattle.proper_content.proofs.roles.are_roles_used.Goals as goal

pub returns : goal.returns
returns c =
    let content = c.args.content.now in
    let of_links : List NoteLink → List (List ℕ) = λ ls. map (λ (l : NoteLink). l.role) ls in
    let of_notes : List Footnote → List (List ℕ) = λ fs. map (λ (f : Footnote). f.role) fs in
    let roles = ap values_of c.as_slice-4.ensures.value ∙ c.in_ok-roles.ensures ∙ ap (map (λ (r : RoleRef). r.uri)) c.as_slice.ensures in
    let used = c.in_ok-used.ensures ∙ ap (λ ls. of_links ls ++ of_notes (values_of c.as_slice-3.result.now)) c.as_slice-2.ensures
    ∙ ap (λ fs. of_links content.notes ++ of_notes fs) (ap values_of c.as_slice-3.ensures.value ∙ c.requires.notes) in
    c.are_within.ensures ∙ (λ i. is_within (roles i) (used i))
