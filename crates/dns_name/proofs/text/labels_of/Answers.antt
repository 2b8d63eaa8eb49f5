use Rattle.std.proofs.Common.{sym, ◌∙◌}
use Rattle.dns_name.proofs.TextLemmas.{text_empty, text_char, text_label, text_long, text_ok, IsName-split}
use Rattle.dns_name.proofs.text.labels_of.Goals as goal

pub returns-then-is_empty-clause-exact : goal.returns-then-is_empty-clause-exact
returns-then-is_empty-clause-exact c = text_empty _ _ c.without_last_dot-labels.ensures (sym c.is_empty.ensures ∙ c.if-is_empty.true)

pub returns-then-not-has_text_bytes-clause-exact : goal.returns-then-not-has_text_bytes-clause-exact
returns-then-not-has_text_bytes-clause-exact c =
    text_char _ _ c.without_last_dot-labels.ensures (sym c.is_empty.ensures ∙ c.if-is_empty.false) (sym c.has_text_bytes.ensures ∙ c.if-not-has_text_bytes.true)

pub returns-then-not-has_label_lengths-clause-exact : goal.returns-then-not-has_label_lengths-clause-exact
returns-then-not-has_label_lengths-clause-exact c =
    text_label _ _ c.without_last_dot-labels.ensures (sym c.is_empty.ensures ∙ c.if-is_empty.false) (sym c.has_text_bytes.ensures ∙ c.if-not-has_text_bytes.false) (sym c.has_label_lengths.ensures ∙ c.if-not-has_label_lengths.true)

pub returns-then-labels-gt-NAME_LIMIT-clause-exact : goal.returns-then-labels-gt-NAME_LIMIT-clause-exact
returns-then-labels-gt-NAME_LIMIT-clause-exact c =
    text_long _ _ c.without_last_dot-labels.ensures (sym c.is_empty.ensures ∙ c.if-is_empty.false) (sym c.has_text_bytes.ensures ∙ c.if-not-has_text_bytes.false) (sym c.has_label_lengths.ensures ∙ c.if-not-has_label_lengths.false) c.if-labels-gt-NAME_LIMIT.true

pub returns-clause-exact : goal.returns-clause-exact
returns-clause-exact c =
    text_ok _ _ c.without_last_dot-labels.ensures (sym c.is_empty.ensures ∙ c.if-is_empty.false) (sym c.has_text_bytes.ensures ∙ c.if-not-has_text_bytes.false) (sym c.has_label_lengths.ensures ∙ c.if-not-has_label_lengths.false) c.if-labels-gt-NAME_LIMIT.false

pub returns-clause-name : goal.returns-clause-name
returns-clause-name c = IsName-split c.without_last_dot-labels.result.now (sym c.has_label_lengths.ensures ∙ c.if-not-has_label_lengths.false) c.if-labels-gt-NAME_LIMIT.false
