use Rattle.std.proofs.Common.{ap, ◌∙◌}
use Rattle.std.specs.Fmt.{decimal}
use Rattle.cluster_listing.proofs.json.push_object_head.Goals as goal

pub returns : goal.returns
returns c =
    rw (
      c.as_bytes.ensures ∙ c.manager_name.ensures.text,
      c.as_bytes-2.ensures.value ∙ c.format.ensures.text ∙ ap decimal c.len_without_images.ensures,
      c.as_bytes-3.ensures.value ∙ c.format-2.ensures.text,
      c.as_bytes-4.ensures.value ∙ c.format-3.ensures.text,
      c.as_bytes-5.ensures ∙ c.text.ensures,
      c.as_bytes-6.ensures ∙ c.text-2.ensures,
      c.as_bytes-7.ensures ∙ c.kind_name.ensures,
      c.as_bytes-8.ensures.value ∙ c.format-4.ensures.text,
      c.as_slice.ensures,
    ) at c.push_all.ensures
