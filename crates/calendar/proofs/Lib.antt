mod WithinLaws
