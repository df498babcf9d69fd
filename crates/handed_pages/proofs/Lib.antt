mod PagesHeld
mod ReadLaws
